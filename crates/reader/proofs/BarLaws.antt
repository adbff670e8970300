-- Whole-bar rests one after the other.
use Rattle.std.specs.Prelude.{ℕ, zero, suc, ◌+◌, ◌-◌, ◌<◌, ◌≤◌, ◌≡◌, refl, Ok, Err}
use Rattle.std.proofs.Common.{arith}
use Rattle.view.specs.declared.refusal.Refusal.{Refusal}
use Rattle.view.specs.View.{View}
use Rattle.view.specs.Steps.{after_barline, after_whole_bar, after_whole_bars}

-- behind a refused one all are refused
refused-on : (place i d n : ℕ) (v : View) (e : Refusal) → n ≡ d + i → after_whole_bars place i v ≡ Err e → after_whole_bars place n v ≡ Err e
refused-on place i zero n v e q h = let k : n ≡ i = omega arith in rw k h
refused-on place i (suc d) n v e q h = let k : n ≡ suc (d + i) = omega arith in rw (k, refused-on place i d (d + i) v e refl h) refl

pub refused : (place i n : ℕ) (v : View) (e : Refusal) → i ≤ n → after_whole_bars place i v ≡ Err e → after_whole_bars place n v ≡ Err e
refused place i n v e within h = refused-on place i (n - i) n v e (omega arith) h

-- one more, unless its barline or it is refused
pub further : (place i : ℕ) (v w u t : View) → after_whole_bars place i v ≡ Ok w → after_barline 0 0 w ≡ Ok u → after_whole_bar place u ≡ Ok t → after_whole_bars place (suc i) v ≡ Ok t
further place i v w u t h k m = rw (h, k, m) refl

pub barred : (place i n : ℕ) (v w : View) (e : Refusal) → i < n → after_whole_bars place i v ≡ Ok w → after_barline 0 0 w ≡ Err e → after_whole_bars place n v ≡ Err e
barred place i n v w e within h k = refused place (suc i) n v e (omega arith) (rw (h, k) refl)

pub unrested : (place i n : ℕ) (v w u : View) (e : Refusal) → i < n → after_whole_bars place i v ≡ Ok w → after_barline 0 0 w ≡ Ok u → after_whole_bar place u ≡ Err e → after_whole_bars place n v ≡ Err e
unrested place i n v w u e within h k m = refused place (suc i) n v e (omega arith) (rw (h, k, m) refl)
