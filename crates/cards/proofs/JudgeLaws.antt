-- What such pitches and notes are, a fact a field. Assumes nothing.
use Prim.Native.Nat.{ℕ, ◌+◌, ◌*◌, ◌^◌, ◌%◌, ◌≤◌}
use native.Mathlib.Omega.{arith}
use mathlib.Core.Path.{◌≡◌, refl, sym, ◌∙◌}
use mathlib.Core.Bool.{Bool, true, false, cond, ◌||◌}
use lib.ListN.{length, drop, get_or}
use lib.Dec.{eqb, leb, ltb}
use borrow.Author.Tests.{leb-true, ltb-true, eqb-true, le-leb, eq-eqb}
use Rattle.std.proofs.lemmas.Bool.{and_parts}
use Rattle.rules.specs.Limits.{pitch_capacity, pitch_size, mark_capacity, count_limit}
use Rattle.rules.specs.Records.{is_rest_kind}
use Rattle.rules.specs.Words.{power_of_two}
use Rattle.tokens.proofs.Below.{below as below_all}
use Rattle.cards.specs.Fields.{stands, holds, every, between}
use Rattle.cards.specs.Values.{such_meter, card_pitches, numbered}
use Rattle.cards.specs.WordPitches.{Counts}
use Rattle.cards.specs.declared.notes.Pitches.{Pitches}
use Rattle.cards.specs.declared.notes.Numbers.{Numbers}
use mathlib.Core.List.{List}
use lib.IntN.{ℤ, pos}
use Rattle.cards.specs.Pieces.{parts, capped}
use Rattle.cards.specs.Words.{normal_word}
use Rattle.cards.specs.Judged.{number_at, pitch_of, note_of, all_zero, such_words, such_key, head_of, such_head_words}
use Rattle.rules.specs.Values.{is_power_of_two}
use mathlib.Core.Option
use Rattle.cards.specs.Card.{Pitch, Note, Head, Form, pitch_tests, such_pitch, note_tests, such_note, head_tests, such_head}
use Rattle.cards.proofs.FieldLaws.{all_hold}
use Rattle.cards.proofs.NumberLaws.{refused}

module _ (form : Form) where
  pub record PitchFits (q : Pitch) : Type 0 where
    pub low : 1 ≤ q.place
    pub high : q.place ≤ form.greatest
    pub step : q.step ≤ 6
    pub octave : q.octave ≤ 9
    pub alter : q.alter ≤ 4

  pub pitch_fits : (q : Pitch) → such_pitch form q ≡ true → PitchFits q
  unfolding such_pitch
  pitch_fits q h =
      let t = all_hold (pitch_tests form q) h in
      let p = and_parts (leb 1 q.place) (leb q.place form.greatest) t.0 in
      record { low = leb-true 1 q.place p.0; high = leb-true q.place form.greatest p.1; step = leb-true q.step 6 t.1.0; octave = leb-true q.octave 9 t.1.1.0; alter = leb-true q.alter 4 t.1.1.1.0 }

  pub pitch_such : (q : Pitch) → PitchFits q → such_pitch form q ≡ true
  unfolding such_pitch holds
  pitch_such q f = rw (le-leb 1 q.place f.low, le-leb q.place form.greatest f.high, le-leb q.step 6 f.step, le-leb q.octave 9 f.octave, le-leb q.alter 4 f.alter)

  pub pitch_not : (q : Pitch) → (PitchFits q → ⊥) → such_pitch form q ≡ false
  pitch_not q n = refused (such_pitch form q) (λ h. n (pitch_fits q h))

  pub record NoteFits (n : Note) : Type 0 where
    pub low : 1 ≤ n.place
    pub high : n.place ≤ form.greatest
    pub duration : n.duration ≤ 9
    pub dots : n.dots ≤ 3
    pub kind : n.kind ≤ 4
    pub ties : n.ties ≤ 3
    pub beam : n.beam ≤ 3
    pub actual : n.actual ≤ 255
    pub tuplet : (eqb n.actual 0 || between 3 count_limit n.actual) ≡ true
    pub mark_count : n.mark_count ≤ 8
    pub marks : ltb n.marks (power_of_two n.mark_count) ≡ true
    pub pitches : length n.pitches ≤ 8
    pub rest : cond (is_rest_kind n.kind) (eqb (length n.pitches) 0) (ltb 0 (length n.pitches)) ≡ true
    pub all : every (such_pitch form) n.pitches ≡ true

  tuplet-most : (k : ℕ) → (eqb k 0 || between 3 count_limit k) ≡ true → k ≤ 255
  tuplet-most k e = go (eqb k 0) refl e
    where
      go : (b : Bool) → eqb k 0 ≡ b → (b || between 3 count_limit k) ≡ true → k ≤ 255
      go true e h = let z = eqb-true k 0 e in omega arith
      go false e h = leb-true k 255 (and_parts (leb 3 k) (leb k 255) h).1

  pub note_fits : (n : Note) → such_note form n ≡ true → NoteFits n
  unfolding such_note
  note_fits n h =
      let t = all_hold (note_tests form n) h in
      let p = and_parts (leb 1 n.place) (leb n.place form.greatest) t.0 in
      let m = and_parts (leb n.mark_count mark_capacity) (ltb n.marks (power_of_two n.mark_count)) t.1.1.1.1.1.1.1.0 in
      record {
        low = leb-true 1 n.place p.0;
        high = leb-true n.place form.greatest p.1;
        duration = leb-true n.duration 9 t.1.0;
        dots = leb-true n.dots 3 t.1.1.0;
        kind = leb-true n.kind 4 t.1.1.1.0;
        ties = leb-true n.ties 3 t.1.1.1.1.0;
        beam = leb-true n.beam 3 t.1.1.1.1.1.0;
        actual = tuplet-most n.actual t.1.1.1.1.1.1.0;
        tuplet = t.1.1.1.1.1.1.0;
        mark_count = leb-true n.mark_count 8 m.0;
        marks = m.1;
        pitches = leb-true (length n.pitches) 8 t.1.1.1.1.1.1.1.1.0;
        rest = t.1.1.1.1.1.1.1.1.1.0;
        all = t.1.1.1.1.1.1.1.1.1.1.0;
      }

  pub note_such : (n : Note) → NoteFits n → such_note form n ≡ true
  unfolding such_note holds
  note_such n f = rw (
    le-leb 1 n.place f.low,
    le-leb n.place form.greatest f.high,
    le-leb n.duration 9 f.duration,
    le-leb n.dots 3 f.dots,
    le-leb n.kind 4 f.kind,
    le-leb n.ties 3 f.ties,
    le-leb n.beam 3 f.beam,
    f.tuplet,
    le-leb n.mark_count 8 f.mark_count,
    f.marks,
    le-leb (length n.pitches) 8 f.pitches,
    f.rest,
    f.all,
  )

  pub note_not : (n : Note) → (NoteFits n → ⊥) → such_note form n ≡ false
  note_not n h = refused (such_note form n) (λ s. h (note_fits n s))

-- marks of at most 8 bits
pub marks_small : (count marks : ℕ) → count ≤ mark_capacity → ltb marks (power_of_two count) ≡ true → marks ≤ 255
marks_small count marks h k = omega (arith, leb-true (power_of_two count) 256 (below_all (λ (n : ℕ). leb (power_of_two n) 256) 9 refl count (omega arith)), ltb-true marks (power_of_two count) k)

-- one bit shifted
pub one_shifted : (n : ℕ) → n ≤ mark_capacity → 1 * 2 ^ n % 4294967296 ≡ power_of_two n
one_shifted n h = eqb-true (1 * 2 ^ n % 4294967296) (power_of_two n) (below_all (λ k. eqb (1 * 2 ^ k % 4294967296) (power_of_two k)) 9 refl n (omega arith))

pub ruleset shifted = (one_shifted)

-- ---- heads

pub record HeadFits (h : Head) : Type 0 where
  pub clef : h.clef ≤ 8
  pub key : Option.get_or h.key 0 ≤ 14
  pub meter : such_meter h.numerator h.denominator h.symbol ≡ true
  pub left : h.left ≤ 3
  pub right : h.right ≤ 3

pub head_fits : (h : Head) → such_head h ≡ true → HeadFits h
unfolding such_head
head_fits h s =
    let t = all_hold (head_tests h) s in
    record {
      clef = leb-true h.clef 8 t.0;
      key = leb-true (Option.get_or h.key 0) 14 t.1.0;
      meter = rw (t.1.1.0, t.1.1.1.0, t.1.1.1.1.0);
      left = leb-true h.left 3 t.1.1.1.1.1.0;
      right = leb-true h.right 3 t.1.1.1.1.1.1.0;
    }

pub head_such : (h : Head) → HeadFits h → such_head h ≡ true
unfolding such_head holds
head_such h f =
    let a = and_parts (leb h.numerator count_limit) _ f.meter in
    let b = and_parts (cond (stands h.numerator) (is_power_of_two h.denominator) (eqb h.denominator 0)) _ a.1 in
    rw (le-leb h.clef 8 f.clef, le-leb (Option.get_or h.key 0) 14 f.key, a.0, b.0, b.1, le-leb h.left 3 f.left, le-leb h.right 3 f.right)

pub head_not : (h : Head) → (HeadFits h → ⊥) → such_head h ≡ false
head_not h n = refused (such_head h) (λ s. n (head_fits h s))

-- ---- words

module _ (form : Form) (bar : ℕ) (w : List ℤ) where
  pub record WordsFit : Type 0 where
    pub few : number_at w 10 ≤ 8
    pub normal : number_at w 7 ≡ normal_word (number_at w 6)
    pub number : number_at w 11 ≡ bar
    pub zero : all_zero (drop (12 + pitch_size * number_at w 10) w) ≡ true
    pub such : such_note form (note_of w) ≡ true

  pub words_fit : such_words form bar w ≡ true → WordsFit
  unfolding such_words such_note holds
  words_fit h =
      let a = and_parts (leb (number_at w 10) pitch_capacity) _ h in
      let b = and_parts (eqb (number_at w 7) (normal_word (number_at w 6))) _ a.1 in
      let c = and_parts (eqb (number_at w 11) bar) _ b.1 in
      let d = and_parts (all_zero (drop (12 + pitch_size * capped (number_at w 10)) w)) _ c.1 in
      record {
        few = leb-true (number_at w 10) 8 a.0;
        normal = eqb-true (number_at w 7) (normal_word (number_at w 6)) b.0;
        number = eqb-true (number_at w 11) bar c.0;
        zero = rw a.0 at d.0;
        such = d.1;
      }

  pub fit_words : WordsFit → such_words form bar w ≡ true
  unfolding such_words such_note holds
  fit_words f =
      let k = le-leb (number_at w 10) 8 f.few in
      rw (k, eq-eqb (number_at w 7) (normal_word (number_at w 6)) f.normal, eq-eqb (number_at w 11) bar f.number, f.zero) f.such

  pub words_not : (WordsFit → ⊥) → such_words form bar w ≡ false
  words_not n = refused (such_words form bar w) (λ h. n (words_fit h))

  -- its pitches
  pub note_pitches : number_at w 10 ≤ 8 → (note_of w).pitches ≡ parts pitch_of pitch_size (number_at w 10) (drop 12 w)
  unfolding note_of
  note_pitches few = rw (le-leb (number_at w 10) 8 few)

-- the numbers of a note's words
abbrev pub numbers_in : ℕ → List ℤ → Numbers
numbers_in place w = record {
  place = place;
  kind = get_or w 1 (pos 0);
  duration = get_or w 2 (pos 0);
  dots = get_or w 3 (pos 0);
  ties = get_or w 4 (pos 0);
  beam = get_or w 5 (pos 0);
  actual = get_or w 6 (pos 0);
  mark_count = get_or w 8 (pos 0);
  marks = get_or w 9 (pos 0);
}

-- with its pitches they are that note
pub note_like : (form : Form) (bar : ℕ) (w : List ℤ) (place : ℕ) (qs : Pitches) → place ≡ number_at w 0 → Counts form w qs → numbered (numbers_in place w) (card_pitches qs) ≡ note_of w
unfolding note_of
note_like form bar w place qs e n = λ i. record {
  place = e i;
  duration = number_at w 2;
  dots = number_at w 3;
  kind = number_at w 1;
  ties = number_at w 4;
  beam = number_at w 5;
  actual = number_at w 6;
  mark_count = number_at w 8;
  marks = number_at w 9;
  pitches = (n.are ∙ sym (note_pitches form bar w n.few)) i;
}

module _ (first : ℕ) (w : List ℤ) where
  pub record HeadWordsFit : Type 0 where
    pub first_note : number_at w 0 ≡ first
    pub key : such_key (get_or w 3 (pos 0)) (get_or w 4 (pos 0)) ≡ true
    pub such : such_head (head_of w) ≡ true

  pub head_words_fit : such_head_words first w ≡ true → HeadWordsFit
  unfolding such_head_words such_head holds
  head_words_fit h =
      let a = and_parts (eqb (number_at w 0) first) _ h in
      let b = and_parts (leb (number_at w 3) 1) _ a.1 in
      let c = and_parts (cond (eqb (number_at w 3) 0) (eqb (number_at w 4) 0) true) _ b.1 in
      record { first_note = eqb-true (number_at w 0) first a.0; key = rw (b.0, c.0); such = c.1 }

  pub fit_head_words : HeadWordsFit → such_head_words first w ≡ true
  unfolding such_head_words such_head holds
  fit_head_words f =
      let k = and_parts (leb (number_at w 3) 1) (cond (eqb (number_at w 3) 0) (eqb (number_at w 4) 0) true) f.key in
      rw (eq-eqb (number_at w 0) first f.first_note, k.0, k.1) f.such

  pub head_words_not : (HeadWordsFit → ⊥) → such_head_words first w ≡ false
  head_words_not n = refused (such_head_words first w) (λ h. n (head_words_fit h))
