-- The run of the tokens is the rules' reading of them: the state, the first refusal and the diagnostics. Assumes nothing.
use Rattle.std.proofs.Common.{◌≡◌, ℕ, zero, suc, ◌+◌, ◌-◌, ◌≤◌, List, [], ◌∷◌, ◌++◌, length, Result, Ok, Err, refl, sym, ap, subst, ◌∙◌, arith}
use Rattle.std.proofs.Math.Option as math
use Rattle.std.proofs.Math.Option.{none, some}
use Rattle.rules.specs.Limits.{note_limit}
use Rattle.rules.specs.Text.{Part}
use Rattle.rules.specs.Characters.{begun}
use Rattle.rules.specs.Cut.{token_size}
use Rattle.rules.specs.Tokens.{Item, item_at, items_after, items_of}
use Rattle.rules.specs.Records.{◌or◌, Diagnostic}
use Rattle.rules.specs.Rules.{Attributes, fresh, further_bars, state_after}
use Rattle.rules.specs.Diagnostics.{token_diagnosed, data_diagnosed}
use Rattle.rules.specs.Refusals as rules
use Rattle.rules.specs.Refusals.{LentRecords, refusal_in_turn, tokens_refusal}
use Rattle.rules.specs.Agreement.{All}
use Rattle.stores.specs.declared.diagnostic.Diagnostic as lent
use Rattle.stores.specs.Diagnostics.{lent_of, diagnosed, count_after, count_after_all, list_after_all}
use Rattle.view.specs.declared.refusal.Refusal.{Refusal}
use Rattle.view.specs.View.{View}
use Rattle.view.specs.Steps.{after_token}
use Rattle.view.specs.Ready.{IsReady}
use Rattle.view.specs.Readable.{Readable}
use Rattle.view.specs.Holds.{Holds, Follows}
use Rattle.view.specs.Run.{IsFresh, attributes_in, lent_in, at_token, then_token, run}
use Rattle.view.proofs.CellLaws.{padded-none}
use Rattle.view.proofs.Entries.{entered_cleared}
use Rattle.view.proofs.Facts.{length-open}
use Rattle.view.proofs.ReadyLaws.{figure_few, ready}
use Rattle.view.proofs.MarkLaws.{marks-below}
use Rattle.view.proofs.ReadableLaws.{items_readable}
use Rattle.view.proofs.Follows.{follows}

-- ---- diagnostics after others

count_more : (xs ys : List Diagnostic) (n : ℕ) → count_after_all n (xs ++ ys) ≡ count_after_all (count_after_all n ys) xs
count_more [] ys n = refl
count_more (x ∷ xs) ys n = ap count_after (count_more xs ys n)

list_more : (xs ys : List Diagnostic) (l : List lent.Diagnostic) (n : ℕ) → list_after_all l n (xs ++ ys) ≡ list_after_all (list_after_all l n ys) (count_after_all n ys) xs
list_more [] ys l n = refl
list_more (x ∷ xs) ys l n = λ i. diagnosed (list_more xs ys l n i) (count_more xs ys n i) (lent_of x)

-- ---- the run

module _ (lent : LentRecords) (k : Attributes) (v : View) where
  -- after tokens that are not refused
  pub record Stands (before : List Item) (w : View) : Type 0 where
    pub fine : tokens_refusal lent k before ≡ none
    pub holds : Holds lent (state_after k before) w
    pub figure : length (state_after k before).figure ≤ note_limit
    pub list : w.diagnostics ≡ list_after_all v.diagnostics v.diagnostic_count (data_diagnosed k before)
    pub count : w.diagnostic_count ≡ count_after_all v.diagnostic_count (data_diagnosed k before)

  abbrev pub Agrees : List Item → Result View rules.Refusal → Type 0
  Agrees before (Ok w) = Stands before w
  Agrees before (Err r) = tokens_refusal lent k before ≡ some r

  pub stands_ready : (before : List Item) (w : View) → Stands before w → IsReady w
  stands_ready before w g = ready lent k before g.holds g.figure (marks-below lent k before g.fine g.holds)

  module _ (x : Item) (before : List Item) where
    -- a token after ones that are not refused
    after : (w : View) → Stands before w → (r : Result View Refusal) → Follows lent x (state_after k before) w r → Agrees (x ∷ before) (at_token x r)
    unfolding tokens_refusal state_after data_diagnosed
    after w g (Ok u) f = record {
      fine = λ i. g.fine i or f.fine i;
      holds = f.holds;
      figure = figure_few x (state_after k before) note_limit g.figure (omega (arith, length-open g.holds.stored, g.holds.stored.capped));
      list = f.list ∙ (λ i. list_after_all (g.list i) (g.count i) ds) ∙ sym (list_more ds (data_diagnosed k before) v.diagnostics v.diagnostic_count);
      count = f.count ∙ (λ i. count_after_all (g.count i) ds) ∙ sym (count_more ds (data_diagnosed k before) v.diagnostic_count);
    }
      where
        ds : List Diagnostic
        ds = token_diagnosed x (state_after k before) x.token
    after w g (Err e) f = (λ i. g.fine i or refusal_in_turn lent x (further_bars x.token) (state_after k before)) ∙ f

    more : Readable x.token → (r : Result View rules.Refusal) → Agrees before r → Agrees (x ∷ before) (then_token x r)
    unfolding tokens_refusal
    more q (Ok w) g = after w g (after_token x x.token w) (follows lent x g.holds (stands_ready before w g) q)
    more q (Err r) g = ap (λ (a : math.Option rules.Refusal). a or refusal_in_turn lent x (further_bars x.token) (state_after k before)) g

  -- of tokens such as are read
  run_agrees : Holds lent (fresh k) v → (items : List Item) → All (λ x. Readable x.token) items → Agrees items (run v items)
  unfolding tokens_refusal state_after data_diagnosed
  run_agrees h [] q = record { fine = refl; holds = h; figure = omega arith; list = refl; count = refl }
  run_agrees h (x ∷ before) q = more x before q.0 (run v before) (run_agrees h before q.1)

-- ---- from a fresh view

-- what all tokens have, those before have
all_before : (P : Item → Type 0) (skip place offset : ℕ) (bytes : List ℕ) (before : List Item) → All P (items_after skip place offset bytes before) → All P before
unfolding items_after item_at
all_before P skip place offset [] before h = h
all_before P zero place offset (b ∷ bs) before h = (all_before P (token_size (b ∷ bs) - 1) (place + 1) (offset + 1) bs (item_at place offset b bs ∷ before) h).1
all_before P (suc skip) place offset (b ∷ bs) before h = all_before P skip (place + begun b) (offset + 1) bs before h

module _ {v : View} (f : IsFresh v) where
  pub fresh_holds : Holds (lent_in v) (fresh (attributes_in v)) v
  fresh_holds = record {
    values = record {
      clef = refl;
      fifths = refl;
      key_alters = refl;
      meter = refl;
      left = sym f.left;
      octave = sym f.octave;
      pending_accidental = sym f.pending_accidental;
      chord_next = sym f.chord_next;
      pending_grace = sym f.pending_grace;
      grace_group = sym f.grace_group;
      tie_pending = sym f.tie_pending;
      figure_start = sym f.figure_start;
      beam_start = sym f.beam_start;
      group = sym f.group;
    };
    entered = entered_cleared refl f.accidentals (omega (arith, f.octave)) (rw f.pending_accidental tt);
    in_turn = record { pattern = sym f.pattern; left = f.lengths_left ∙ sym f.pattern };
    stored = record {
      count = f.note_count;
      first = f.first;
      last = f.last;
      bars = f.bar_count;
      written = f.notes ∙ padded-none (length v.notes);
      fits = omega (arith, f.note_count);
      capped = omega (arith, f.note_count);
    };
    barred = record { written = f.bars ∙ padded-none (length v.bars); fits = omega arith; few = omega arith };
    figured = record { records = []; rest = v.figure; notes = refl; counted = f.figure_count; written = refl };
    lends = record { notes = refl; bars = refl; figure = refl };
  }

  -- the run of the data's tokens, or its refusal, is the rules' reading of them
  pub data_agrees : (d : Part) → Agrees (lent_in v) (attributes_in v) v (items_of d) (run v (items_of d))
  data_agrees d = run_agrees (lent_in v) (attributes_in v) v fresh_holds (items_of d) (items_readable d)

  -- what the steps ask stands before each of them
  pub ready_before : (d : Part) (place offset : ℕ) (bytes : List ℕ) (before : List Item) (w : View) → items_of d ≡ items_after 0 place offset bytes before → run v before ≡ Ok w → IsReady w
  ready_before d place offset bytes before w e r =
      let readable : All (λ x. Readable x.token) before = all_before (λ x. Readable x.token) 0 place offset bytes before (subst (All (λ x. Readable x.token)) e (items_readable d)) in
      stands_ready (lent_in v) (attributes_in v) v before w (subst (Agrees (lent_in v) (attributes_in v) v before) r (run_agrees (lent_in v) (attributes_in v) v fresh_holds before readable))

-- a refusal stays, whatever tokens follow
pub refused_after : (v : View) (r : rules.Refusal) (skip place offset : ℕ) (bytes : List ℕ) (before : List Item) → run v before ≡ Err r → run v (items_after skip place offset bytes before) ≡ Err r
unfolding items_after item_at
refused_after v r skip place offset [] before e = e
refused_after v r zero place offset (b ∷ bs) before e = let x : Item = item_at place offset b bs in
    refused_after v r (token_size (b ∷ bs) - 1) (place + 1) (offset + 1) bs (x ∷ before) (ap (then_token x) e)
refused_after v r (suc skip) place offset (b ∷ bs) before e = refused_after v r skip (place + begun b) (offset + 1) bs before e
