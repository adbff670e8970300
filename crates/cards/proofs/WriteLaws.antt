-- Notes and bars judged and written one after the other. Assumes nothing.
use Prim.Native.Nat.{ℕ, zero, suc, ◌+◌, ◌*◌, ◌/◌, ◌<◌, ◌≤◌}
use native.Mathlib.Omega.{arith}
use native.Mathlib.Numerals.{add-one}
use mathlib.Core.Path.{◌≡◌, refl, ap, sym, ◌∙◌}
use mathlib.Core.Bool.{Bool, true, false, cond, ◌&&◌, and-true}
use mathlib.Core.Option
use mathlib.Core.List.{List, [], ◌∷◌, ◌++◌}
use lib.IntN.{ℤ}
use lib.ListN.{length, take, drop, length-append, length-drop}
use lib.Seq.{take_at, drop_at, take_all, length-take-le}
use lib.Dec.{eqb, leb, ltb}
use borrow.Author.Tests.{leb-true, leb-false, ltb-true, eqb-true, eq-eqb, le-leb, lt-ltb}
use Rattle.std.proofs.Common.{Result, Ok, Err}
use Rattle.std.proofs.lemmas.Bool.{and_parts}
use Rattle.std.proofs.lemmas.Result.{MatchResult-weaker}
use Rattle.rules.specs.Limits.{note_size, bar_size, note_limit}
use Rattle.cards.specs.Fields.{holds, every, each}
use Rattle.cards.specs.Pieces.{parts}
use Rattle.cards.specs.Card.{Form, note_bytes, bar_bytes}
use Rattle.cards.specs.Judged.{number_at, note_of, such_words, such_head_words}
use Rattle.cards.specs.Records.{first_bar, count_in, later_bars, later_notes, note_records, notes_of, such_first, such_bars, such_cells, bars_of}
use Rattle.cards.specs.Writer.{put_so_far, with_more, Wrote}
use Rattle.cards.specs.Written.{SameCard, WritesNotes, WritesBars, bytes_of_bar}
use Rattle.cards.specs.declared.error.CardError.{CardError}
use Rattle.cards.specs.declared.writing.CardWriter.{CardWriter}
use Rattle.cards.proofs.FieldLaws.{all_hold}
use Rattle.cards.proofs.NumberLaws.{refused}
use Rattle.cards.proofs.PartLaws.{length-parts}
use Rattle.cards.proofs.ChunkLaws.{chunks, chunks_taken, chunks_cut}
use Rattle.cards.proofs.PutLaws.{wrote_none, wrote_then, wrote_as}

pub same_none : (s : CardWriter) → SameCard s s
same_none s = record { same_card = refl; same_room = refl }

pub same_then : {s t u : CardWriter} → SameCard s t → SameCard t u → SameCard s u
same_then a b = record { same_card = b.same_card ∙ a.same_card; same_room = b.same_room ∙ a.same_room }

pub same_wrote : {x : List ℕ} {s t : CardWriter} → Wrote x s t → SameCard s t
same_wrote w = record { same_card = w.same_card; same_room = w.same_room }

-- the first `count` notes' words are those that count
pub front_notes : {A : Type 0} (f : List ℤ → A) (count : ℕ) (l : List ℤ) → count * note_size ≤ length l
    → chunks f note_size (length (take (count * note_size) l) / note_size) (take (count * note_size) l) ≡ chunks f note_size count l
front_notes f count l h =
    let e : length (take (count * note_size) l) / note_size ≡ count = omega (arith, length-take-le (count * note_size) l h) in
    rw (e, chunks_taken f note_size count l)

-- ---- notes

-- what is put of the notes from here on is what is put of all
abbrev pub NotesFrom : Form → ℕ → List ℤ → CardWriter → List ℤ → CardWriter → Type 0
NotesFrom form bar words s rest t = (r : Result Unit CardError) (u : CardWriter) → WritesNotes form bar rest t r u → WritesNotes form bar words s r u

module _ (form : Form) (bar : ℕ) where
  pub notes_end : (w : List ℤ) (t : CardWriter) → length w < note_size → WritesNotes form bar w t (Ok tt) t
  unfolding parts every each
  notes_end w t h = let e : length w / note_size ≡ 0 = omega arith in record { same = same_none t; wrote = rw e (refl, wrote_none t) }

  module _ (w x b : List ℤ) (cut : w ≡ x ++ b) (long : length x ≡ note_size) where
    cut_notes : {A : Type 0} (f : List ℤ → A) → chunks f note_size (length w / note_size) w ≡ f x ∷ chunks f note_size (length b / note_size) b
    cut_notes f = chunks_cut f note_size (omega arith) w x b cut long

    pub notes_one : such_words form bar x ≡ true → {s t : CardWriter} → Wrote (note_bytes form (note_of x)) s t → (r : Result Unit CardError) (u : CardWriter) → WritesNotes form bar b t r u → WritesNotes form bar w s r u
    unfolding every each
    notes_one e p r u n =
        let all : every (such_words form bar) (note_records (length w / note_size) w) ≡ every (such_words form bar) (note_records (length b / note_size) b) = rw (cut_notes (λ v. v), e) in
        let bytes : each (note_bytes form) (notes_of (length w / note_size) w) ≡ note_bytes form (note_of x) ++ each (note_bytes form) (notes_of (length b / note_size) b) = rw (cut_notes note_of) in
        record { same = same_then (same_wrote p) n.same; wrote = MatchResult-weaker r n.wrote (λ _ m. (all ∙ m.0, wrote_as (sym bytes) (wrote_then p m.1))) (λ _ m. all ∙ m) }

    pub notes_not : such_words form bar x ≡ false → every (such_words form bar) (note_records (length w / note_size) w) ≡ false
    unfolding every
    notes_not e = rw (cut_notes (λ v. v), e)

-- ---- a bar judged

module _ (form : Form) (number first : ℕ) (notes : List ℤ) where
  pub first_is : (head : List ℤ) → length head ≡ bar_size
      → such_first form number first notes head ≡ (such_head_words first head && (ltb 0 (number_at head 1) && (leb (number_at head 1 * note_size) (length notes) && every (such_words form number) (note_records (number_at head 1) notes))))
  unfolding such_first holds
  first_is head size = rw (take_all bar_size head (omega arith), and-true)

-- ---- bars

-- what is put of the bars from here on is what is put of all
abbrev pub BarsFrom : Form → List ℤ → List ℤ → CardWriter → ℕ → ℕ → List ℤ → List ℤ → CardWriter → Type 0
BarsFrom form notes bars s number first rest left t = (r : Result Unit CardError) (u : CardWriter) → WritesBars form number first rest left t r u → WritesBars form 1 0 notes bars s r u

module _ (form : Form) (number first : ℕ) (notes : List ℤ) where
  -- no note behind the last bar
  pub bars_end : (w : List ℤ) (t : CardWriter) → length w < bar_size → eqb (length notes) 0 ≡ true → WritesBars form number first notes w t (Ok tt) t
  unfolding such_bars bars_of each
  bars_end w t h k = let e : length w / bar_size ≡ 0 = omega arith in record { same = same_none t; wrote = rw e (k, wrote_none t) }

  pub bars_left : (w : List ℤ) (t : CardWriter) (e : CardError) → length w < bar_size → eqb (length notes) 0 ≡ false → WritesBars form number first notes w t (Err e) t
  unfolding such_bars
  bars_left w t e h k = let z : length w / bar_size ≡ 0 = omega arith in record { same = same_none t; wrote = rw z k }

  module _ (w x b : List ℤ) (cut : w ≡ x ++ b) (long : length x ≡ bar_size) where
    abbrev c : ℕ
    c = number_at x 1

    more : length w / bar_size ≡ suc (length b / bar_size)
    more = omega (arith, ap length cut, length-append x b)

    first_cut : such_first form number first notes (x ++ b) ≡ such_first form number first notes x
    unfolding such_first
    first_cut = rw (take_at x b bar_size long, take_all bar_size x (omega arith))

    such_more : such_bars form (length w / bar_size) number first notes w ≡ (such_first form number first notes x && such_bars form (length b / bar_size) (number + 1) (first + c) (drop (c * note_size) notes) b)
    unfolding such_bars
    such_more = rw (more, cut, first_cut, take_at x b bar_size long, drop_at x b bar_size long, add-one)

    bytes_more : each (bar_bytes form) (bars_of (length w / bar_size) notes w) ≡ bytes_of_bar form notes x ++ each (bar_bytes form) (bars_of (length b / bar_size) (drop (c * note_size) notes) b)
    unfolding bars_of each bar_bytes
    bytes_more = rw (more, cut, take_at x b bar_size long, drop_at x b bar_size long, length-parts (λ (v : List ℤ). note_of (take note_size v)) note_size c notes)

    pub bars_one : such_first form number first notes x ≡ true → {s t : CardWriter} → Wrote (bytes_of_bar form notes x) s t
        → {count : ℕ} {later : List ℤ} → count ≡ c → later ≡ drop (count * note_size) notes
        → (r : Result Unit CardError) (u : CardWriter) → WritesBars form (number + 1) (first + count) later b t r u → WritesBars form number first notes w s r u
    bars_one e p f g r u n' =
        let n = rw (g, f) at n' in
        let all : such_bars form (length w / bar_size) number first notes w ≡ such_bars form (length b / bar_size) (number + 1) (first + c) (drop (c * note_size) notes) b = such_more ∙ rw e in
        record { same = same_then (same_wrote p) n.same; wrote = MatchResult-weaker r n.wrote (λ _ m. (all ∙ m.0, wrote_as (sym bytes_more) (wrote_then p m.1))) (λ _ m. all ∙ m) }

    pub bars_not : such_first form number first notes x ≡ false → such_bars form (length w / bar_size) number first notes w ≡ false
    bars_not e = such_more ∙ rw e

-- ---- the card

-- every bar has a note
bars_few : (form : Form) (left number first : ℕ) (notes bars : List ℤ) → such_bars form left number first notes bars ≡ true → left * note_size ≤ length notes
unfolding such_bars such_first
bars_few form zero number first notes bars h = omega arith
bars_few form (suc left) number first notes bars h =
    let c = count_in bars in
    let t = and_parts _ (such_bars form left (suc number) (first + c) (later_notes c notes) (later_bars bars)) h in
    let u = all_hold (such_head_words first (first_bar bars) ∷ ltb 0 c ∷ leb (c * note_size) (length notes) ∷ every (such_words form number) (note_records c notes) ∷ []) t.0 in
    omega (arith, bars_few form left (suc number) (first + c) (later_notes c notes) (later_bars bars) t.1, length-drop (c * note_size) notes, ltb-true 0 c u.1.0, leb-true (c * note_size) (length notes) u.1.1.0)

pub length_bars : (left : ℕ) (notes bars : List ℤ) → length (bars_of left notes bars) ≡ left
unfolding bars_of
length_bars zero notes bars = refl
length_bars (suc left) notes bars = ap suc (length_bars left (later_notes (count_in bars) notes) (later_bars bars))

-- whole bars, at least one, no more than notes, and these few
pub record CellsFit (form : Form) (notes bars : List ℤ) : Type 0 where
  pub some : 0 < length bars / bar_size
  pub whole : length bars ≡ length bars / bar_size * bar_size
  pub few : length notes ≤ note_limit * note_size
  pub noted : length bars / bar_size * note_size ≤ length notes
  pub such : such_bars form (length bars / bar_size) 1 0 notes bars ≡ true

module _ (form : Form) (notes bars : List ℤ) where
  abbrev left : ℕ
  left = length bars / bar_size

  pub cells_fit : such_cells form notes bars ≡ true → CellsFit form notes bars
  unfolding such_cells
  cells_fit h =
      let t = all_hold (ltb 0 left ∷ eqb (length bars) (left * bar_size) ∷ leb (length notes) (note_limit * note_size) ∷ such_bars form left 1 0 notes bars ∷ []) h in
      record {
        some = ltb-true 0 left t.0;
        whole = eqb-true (length bars) (left * bar_size) t.1.0;
        few = leb-true (length notes) (note_limit * note_size) t.1.1.0;
        noted = bars_few form left 1 0 notes bars t.1.1.1.0;
        such = t.1.1.1.0;
      }

  pub cells_not : (CellsFit form notes bars → ⊥) → such_cells form notes bars ≡ false
  cells_not n = refused (such_cells form notes bars) (λ h. n (cells_fit h))

  pub cells_judged : 0 < left → length bars ≡ left * bar_size → length notes ≤ note_limit * note_size → such_cells form notes bars ≡ such_bars form left 1 0 notes bars
  unfolding such_cells holds
  cells_judged a b c = rw (lt-ltb 0 left a, eq-eqb (length bars) (left * bar_size) b, le-leb (length notes) (note_limit * note_size) c, and-true)

-- ---- what a writer begun at the front has put

module _ {bytes : List ℕ} {s t : CardWriter} (w : Wrote bytes s t) (front : s.at ≡ 0) (some : s.full ≡ false) where
  put_from_front : put_so_far t ≡ cond (leb (length bytes) (length s.card.now)) (Option.some bytes) Option.none
  unfolding with_more
  put_from_front = w.put ∙ rw (some, front)

  pub put_over : t.full ≡ true → length s.card.now < length bytes
  put_over e = leb-false (length bytes) (length s.card.now) (go (leb (length bytes) (length s.card.now)) refl (rw e at put_from_front))
    where
      go : (b : Bool) → leb (length bytes) (length s.card.now) ≡ b → Option.none ≡ cond b (Option.some bytes) Option.none → b ≡ false
      go true f g = absurd cc
      go false f g = refl

  pub put_whole : t.full ≡ false → take t.at t.card.now ≡ bytes
  put_whole e = go (leb (length bytes) (length s.card.now)) (rw e at put_from_front)
    where
      go : (b : Bool) → Option.some (take t.at t.card.now) ≡ cond b (Option.some bytes) Option.none → take t.at t.card.now ≡ bytes
      go true g = cc
      go false g = absurd cc
