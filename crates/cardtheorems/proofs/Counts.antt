-- An accepted text has at most 65,535 bytes (refusal 1), stores at most 100,000 notes (refusal 7) and at least one bar (refusal 13). Assumes nothing.
use Prim.Native.Nat.{ℕ, zero, suc, ◌+◌, ◌≤◌}
use mathlib.Core.Path.{◌≡◌, refl, sym, ap, ◌∙◌}
use mathlib.Core.Bool.{Bool, true, false, cond, ◌&&◌, false≢true}
use mathlib.Core.Option.{Option, none, some}
use mathlib.Core.List.{List, [], ◌∷◌, map}
use native.Mathlib.Omega.{arith}
use borrow.Author.Tests.{ltb-false}
use lib.ListN.{length, length-append, length-map}
use lib.Dec.{ltb}
use Rattle.rules.specs.Limits.{text_limit, note_limit}
use Rattle.rules.specs.Tokens.{Figure, letter_in, is_rest, is_barline, figure_in, whole_bars_in, Token, Item}
use Rattle.rules.specs.Records.{is_some, given, is_empty, notes_of, Heading, Note, Bar}
use Rattle.rules.specs.Rules.{opens, copied, repeated, opened_note, rest_note, whole_bar_rest, stores, step, further_bars, inner_barline, in_turn, state_after, stored, State, Attributes}
use Rattle.rules.specs.Fields.{data_of}
use Rattle.rules.specs.Characters.{characters_in}
use Rattle.rules.specs.Refusals.{refusal, first_failing, text_checks, text_refusal, over_bars, passes, token_checks, token_refusal, refusal_at, refusal_in_turn, tokens_refusal, end_refusal, refusal_of, LentRecords}
use Rattle.rules.specs.Reading.{lent_records, attributes_of, tokens_of, bars_of, records_of, reading, Lent}
use Rattle.theorems.proofs.Places.{headings, headings-step}
use Rattle.theorems.proofs.Agreement.{at-end}
use Rattle.theorems.proofs.Accepted.{not-refused, or-none, given-none, passed}

-- ---- a token that is not refused keeps to the limit

-- how many records a token stores doesn't depend on its place
stores_same : (p q : ℕ) (t : Token) (s : State) → length (stores p t s) ≡ length (stores q t s)
stores_same p q t s = go (opens t s) (letter_in t) (is_rest t) (is_some (whole_bars_in t)) (figure_in t)
  where
    made : ℕ → Bool → Option ℕ → Bool → Bool → Option Figure → List Note
    made p b n r w f = cond b (given n [] (λ step. opened_note s p step ∷ [])) (cond r (rest_note s p ∷ []) (cond w (whole_bar_rest p ∷ []) (given f [] (λ f. map (copied p) (repeated f s)))))

    go : (b : Bool) (n : Option ℕ) (r w : Bool) (f : Option Figure) → length (made p b n r w f) ≡ length (made q b n r w f)
    go true none r w f = refl
    go true (some n) r w f = refl
    go false n true w f = refl
    go false n false true f = refl
    go false n false false none = refl
    go false n false false (some f) = length-map (repeated f s) (copied p) ∙ sym (length-map (repeated f s) (copied q))

-- how many are stored after a token
step_count : (x : Item) (s : State) → length (stored (step x s)) ≡ length (cond (is_barline x.token) [] (stores x.place x.token s)) + length (stored s)
step_count x s =
    let new : List Note = cond (is_barline x.token) [] (stores x.place x.token s) in
    sym (length-map (stored (step x s)) own) ∙ ap length (headings-step x s) ∙ length-append (headings new) (headings (stored s)) ∙ (λ i. length-map new own i + length-map (stored s) own i)
  where
    own : Note → Heading
    own r = r.heading

module _ (lent : LentRecords) where
  abbrev Few : State → Type 0
  Few s = length (stored s) ≤ note_limit

  step-few : (x : Item) (s : State) → refusal_at lent x s ≡ none → Few s → Few (step x s)
  step-few x s e h = go (is_barline x.token) (step_count x s)
    where
      added : ℕ
      added = length (stores 0 x.token s)

      test : passes note_limit added s ≡ false
      test = (passed (token_checks lent x.token s) (given-none (token_refusal lent x.token s) _ e)).0

      room : (b : Bool) → ltb 0 added ≡ b → b && ltb note_limit (length (stored s) + added) ≡ false → length (stored s) + added ≤ note_limit
      room true q f = ltb-false note_limit (length (stored s) + added) f
      room false q f = omega (arith, ltb-false 0 added q, h)

      go : (b : Bool) → length (stored (step x s)) ≡ length (cond b [] (stores x.place x.token s)) + length (stored s) → Few (step x s)
      go true q = omega (arith, q, h)
      go false q = omega (arith, q, stores_same x.place 0 x.token s, room (ltb 0 added) refl test)

  turns-few : (x : Item) (further : ℕ) (s : State) → refusal_in_turn lent x further s ≡ none → Few s → Few (in_turn x further s)
  turns-few x zero s e h = step-few x s e h
  turns-few x (suc further) s e h =
      let t : State = in_turn x further s in
      let a = or-none (refusal_in_turn lent x further s) _ e in
      let b = or-none (refusal_at lent (inner_barline x) t) (refusal_at lent x (step (inner_barline x) t)) a.1 in
      step-few x (step (inner_barline x) t) b.1 (step-few (inner_barline x) t b.0 (turns-few x further s a.0 h))

  tokens-few : (k : Attributes) (all : List Item) → tokens_refusal lent k all ≡ none → Few (state_after k all)
  unfolding tokens_refusal state_after
  tokens-few k [] e = omega arith
  tokens-few k (x ∷ before) e =
      let a = or-none (tokens_refusal lent k before) (refusal_in_turn lent x (further_bars x.token) (state_after k before)) e in
      turns-few x (further_bars x.token) (state_after k before) a.1 (tokens-few k before a.0)

-- ---- of an accepted text

module _ (text : List ℕ) (lent : Lent) (e : (reading text lent).number ≡ 0) where
  abbrev room : LentRecords
  room = lent_records lent

  abbrev last : State
  last = state_after (attributes_of text) (tokens_of text)

  no-refusal : (text_refusal text room ≡ none) × (tokens_refusal room (attributes_of text) (tokens_of text) ≡ none) × (end_refusal room (characters_in (data_of text).bytes) last ≡ none)
  unfolding refusal_of
  no-refusal =
      let a = or-none (text_refusal text room) _ (not-refused text lent e) in
      let b = or-none (tokens_refusal room (attributes_of text) (tokens_of text)) (end_refusal room (characters_in (data_of text).bytes) last) a.1 in
      (a.0, b.0, b.1)

  pub text-short : length text ≤ text_limit
  text-short = ltb-false text_limit (length text) (passed (text_checks text room) (given-none (first_failing (text_checks text room)) (λ n. refusal n 0) no-refusal.0)).0

  pub notes-few : length (records_of text) ≤ note_limit
  notes-few = rw (at-end (attributes_of text) (data_of text) (tokens_of text)) (tokens-few room (attributes_of text) (tokens_of text) no-refusal.1)

  stored_some : is_empty (stored last) ≡ false
  stored_some = go (over_bars room last) (is_empty (stored last)) no-refusal.2
    where
      go : (b c : Bool) → cond b (some (refusal 12 (characters_in (data_of text).bytes + 1))) (cond c (some (refusal 13 0)) none) ≡ none → c ≡ false
      go true c q = let z : ◌≡◌ {A = ℕ} 0 1 = cc in absurd (omega arith)
      go false true q = let z : ◌≡◌ {A = ℕ} 0 1 = cc in absurd (omega arith)
      go false false q = refl

  pub bars-some : 1 ≤ length (bars_of text)
  bars-some = go (bars_of text) (ap is_empty (at-end (attributes_of text) (data_of text) (tokens_of text)) ∙ stored_some)
    where
      go : (bs : List Bar) → is_empty (notes_of bs) ≡ false → 1 ≤ length bs
      go [] q = absurd (false≢true (sym q))
      go (b ∷ bs) q = omega arith
