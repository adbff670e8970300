-- A token of the first six kinds changes no note record, and of the octave, the pattern and the waiting accidental at most its own. Assumes nothing.
use Prim.Native.Nat.{ℕ, suc, ◌-◌}
use Prim.Native.Char.{code}
use mathlib.Core.Path.{◌≡◌, refl, ap, subst}
use mathlib.Core.Bool.{Bool, true, false, cond}
use mathlib.Core.Logic.{◌≢◌}
use mathlib.Core.Option.{Option, none, some}
use mathlib.Core.List.{List, [], ◌∷◌, ◌++◌}
use lib.ListN.{take}
use lib.Dec.{eqb}
use Rattle.rules.specs.Text.{is_digit}
use Rattle.rules.specs.Cut.{token_size}
use Rattle.rules.specs.Tokens.{token_of, item_at, Token, Item}
use Rattle.rules.specs.Records.{notes_of, Note}
use Rattle.rules.specs.Rules.{with_notations, step, further_bars, in_turn, state_after, State, Attributes}
use Rattle.rules.specs.Frame.{kind_of_byte, FirstKind, octave_kind, duration_kind, accidental_kind, Framed}

-- a token that is no marking leaves all notations
notations-stay : (later : ℕ) (ns : List Note) → with_notations (λ later n. n.notations) later ns ≡ ns
notations-stay later [] = refl
notations-stay later (n ∷ ns) = λ i. n ∷ notations-stay (suc later) ns i

-- two branches on one test
pub both : {A B : Type 0} (P : A → B → Type 0) (b : Bool) {x y : A} {u v : B} → P x u → P y v → P (cond b x y) (cond b u v)
both P true h g = h
both P false h g = g

-- nothing is asked of what is the kind's own
pub own : {kind : FirstKind} {A : Type 0} → kind ≢ kind → A
own n = absurd (n refl)

-- no record changes where neither the open bar nor the bars do
framed : {kind : FirstKind} {s s' : State} → s'.open_bar ≡ s.open_bar → s'.bars ≡ s.bars → (kind ≢ octave_kind → s'.octave ≡ s.octave)
    → (kind ≢ duration_kind → (s'.pattern ≡ s.pattern) × (s'.values_taken ≡ s.values_taken)) → (kind ≢ accidental_kind → s'.pending_accidental ≡ s.pending_accidental) → Framed kind s s'
framed notes bars octave pattern accidental = record {
  same_records = λ i. notes i ++ notes_of (bars i);
  same_open_bar = notes;
  same_bars = bars;
  same_octave = octave;
  same_pattern = pattern;
  same_accidental = accidental;
}

module _ (place offset size : ℕ) (s : State) where
  -- of a token t, if its kind is one of the six
  abbrev FramedBy : Option FirstKind → Token → Type 0
  FramedBy none t = Unit {0}
  FramedBy (some kind) t = (further_bars t ≡ 0) × Framed kind s (step (record { place = place; offset = offset; size = size; token = t }) s)

  by_byte : (b : ℕ) (bs : List ℕ) → FramedBy (kind_of_byte b) (token_of b bs)
  unfolding step token_of kind_of_byte
  by_byte b bs =
      let notes = notations-stay 0 s.open_bar in
      both FramedBy (eqb b (code "%")) (refl, framed notes refl (λ n. refl) (λ n. (refl, refl)) (λ n. refl))
      (both FramedBy (eqb b (code "$")) (refl, framed notes refl (λ n. refl) (λ n. (refl, refl)) (λ n. refl))
      (both FramedBy (eqb b (code "@")) (refl, framed notes refl (λ n. refl) (λ n. (refl, refl)) (λ n. refl))
      (both FramedBy (eqb b (code "'")) (refl, framed notes refl own (λ n. (refl, refl)) (λ n. refl))
      (both FramedBy (eqb b (code ",")) (refl, framed notes refl own (λ n. (refl, refl)) (λ n. refl))
      (both FramedBy (is_digit b) (refl, framed notes refl (λ n. refl) own (λ n. refl))
      (both FramedBy (eqb b (code "x")) (refl, framed notes refl (λ n. refl) (λ n. (refl, refl)) own)
      (both FramedBy (eqb b (code "b")) (refl, framed notes refl (λ n. refl) (λ n. (refl, refl)) own)
      (both FramedBy (eqb b (code "n")) (refl, framed notes refl (λ n. refl) (λ n. (refl, refl)) own) tt))))))))

-- of every token of the six kinds, in every state
of-item : (kind : FirstKind) (b : ℕ) (bs : List ℕ) (place offset : ℕ) (s : State) → kind_of_byte b ≡ some kind → (further_bars (item_at place offset b bs).token ≡ 0) × Framed kind s (step (item_at place offset b bs) s)
unfolding item_at
of-item kind b bs place offset s h =
    let size = token_size (b ∷ bs) in
    let token = token_of b (take (size - 1) bs) in
    subst (λ k. FramedBy place offset size s k token) h (by_byte place offset size s b (take (size - 1) bs))

pub frame : (kind : FirstKind) (b : ℕ) (bs : List ℕ) (place offset : ℕ) (s : State) → kind_of_byte b ≡ some kind → Framed kind s (step (item_at place offset b bs) s)
frame kind b bs place offset s h = (of-item kind b bs place offset s h).1

-- such a token has no further bars: its step is all that it does
pub frame-alone : (kind : FirstKind) (b : ℕ) (bs : List ℕ) (place offset : ℕ) (k : Attributes) (e : List Item) → kind_of_byte b ≡ some kind → state_after k (item_at place offset b bs ∷ e) ≡ step (item_at place offset b bs) (state_after k e)
unfolding state_after
frame-alone kind b bs place offset k e h = ap (λ n. in_turn (item_at place offset b bs) n (state_after k e)) (of-item kind b bs place offset (state_after k e) h).0
