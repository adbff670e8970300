-- Letters and rests: what the view makes of them is what the rules do. Assumes nothing.
use Prim.Native.Nat.{ℕ, ◌-◌, ◌<◌}
use native.Mathlib.Omega.{arith}
use mathlib.Core.Path.{◌≡◌, refl, sym, ap, subst, ◌∙◌}
use mathlib.Core.Bool.{Bool, true, false, cond, false≢true}
use mathlib.Core.Option.{none, some}
use mathlib.Core.List.{List, [], ◌∷◌}
use lib.ListN.{length}
use lib.Dec.{leb}
use borrow.Author.Tests.{leb-false}
use Rattle.std.proofs.lemmas.Bool.{and_parts}
use Rattle.std.specs.Prelude.{Ok, Err}
use Rattle.rules.specs.Limits.{note_size, pitch_capacity}
use Rattle.rules.specs.Tokens.{letter, rest}
use Rattle.rules.specs.Records.{given, Heading, Pitch, Note}
use Rattle.tokens.specs.Rhythm.{next_length}
use Rattle.rules.specs.Rules as rules
use Rattle.rules.specs.Rules.{State, ends_in_note, step}
use Rattle.rules.specs.Refusals.{LentRecords, refusal, refusal_in_turn, is_full}
use Rattle.stores.specs.Cells.{changed}
use Rattle.stores.specs.Notes.{pitched}
use Rattle.stores.specs.declared.note.TheConstants.{PITCH_COUNT}
use Rattle.view.specs.declared.refusal.Refusal.TheVariants.{NoPitch}
use Rattle.view.specs.View.{View, last_number}
use Rattle.view.specs.Steps.{pitch_of, lettered, opened_heading, after_joined, after_opened, after_letter, after_rest}
use Rattle.view.specs.Holds.{SameValues, Entered, InTurn, Stored, Holds, Follows}
use Rattle.view.proofs.Same.{item, same_entered, same_stored, same_barred, same_figured, same_lends}
use Rattle.view.proofs.Values.{letter_joined, letter_opened, rest_set}
use Rattle.view.proofs.Entries.{entered_lettered, pitch_agrees}
use Rattle.view.proofs.Turns.{heading_agrees, rest_heading_agrees, turn_joined, turn_opened, turn_rest}
use Rattle.view.proofs.Facts.{last-number, joins-same, room-follows}
use Rattle.view.proofs.NotesLaws.{unmarked, added, joined}

-- the notes changed, and no bar was stored
pub notes_held : {lent : LentRecords} {s s' : State} {v w : View} → Holds lent s v → s'.bars ≡ s.bars → s'.figure ≡ s.figure → w.bars ≡ v.bars → w.figure_count ≡ v.figure_count → w.figure ≡ v.figure
    → length w.notes ≡ length v.notes → Stored s'.open_bar s'.bars w → SameValues s' w → Entered s' w → InTurn s' w → Holds lent s' w
notes_held h a b c d e l stored values entered turn = record {
  values = values;
  entered = entered;
  in_turn = turn;
  stored = stored;
  barred = same_barred a c h.barred;
  figured = same_figured b d e h.figured;
  lends = same_lends (sym l) (ap length (sym c)) (ap length (sym e)) h.lends;
}

module _ (lent : LentRecords) (p o z : ℕ) {s : State} {v : View} (h : Holds lent s v) where
  pub follows_rest : Follows lent (item p o z rest) s v (after_rest p v)
  unfolding step
  follows_rest = room-follows lent (item p o z rest) s h.stored h.lends 1 _ refl (λ fine few fits.
      let n : Note = record { heading = rules.heading p 1 (next_length v.lengths_left); pitches = []; notations = rules.plain false } in
      let new = added h.stored n few fits in
      let front : rules.rest_note s p ≡ n = ap (λ (x : Heading). record { heading = x; pitches = []; notations = rules.plain false }) (rest_heading_agrees h.values h.in_turn p) in
      record {
        fine = fine;
        holds = notes_held h refl refl refl refl refl new.1
            (same_stored (λ i. front i ∷ unmarked s.open_bar i) refl refl new.0)
            (rest_set p o z h.values refl refl)
            (same_entered refl refl h.entered.low h.entered.waits h.entered)
            (turn_rest p o z h.values h.in_turn refl refl);
        list = refl;
        count = refl;
      })

  -- ---- letters

  -- 9
  full_agrees : (l : List Note) → Stored l s.bars v → ends_in_note l ≡ true → is_full l ≡ leb pitch_capacity (last_number PITCH_COUNT v)
  full_agrees [] r e = absurd (false≢true e)
  full_agrees (x ∷ l) r e = ap (leb pitch_capacity) (sym (last-number r PITCH_COUNT (omega arith)))

  module _ (n : ℕ) (low : n < 7) where
    -- 'After `^` the next letter joins the open bar's last record'
    follows_joined : rules.joins s ≡ true → Follows lent (item p o z (letter n)) s v (after_joined p n v)
    unfolding step
    follows_joined e = go (leb pitch_capacity (last_number PITCH_COUNT v)) refl
      where
        ends : ends_in_note s.open_bar ≡ true
        ends = (and_parts s.chord_next (ends_in_note s.open_bar) e).1

        refused : refusal_in_turn lent (item p o z (letter n)) 0 s ≡ given (cond (leb pitch_capacity (last_number PITCH_COUNT v)) (some 9) none) none (λ k. some (refusal k p))
        refused = rw (e, full_agrees s.open_bar h.stored ends)

        go : (b : Bool) → leb pitch_capacity (last_number PITCH_COUNT v) ≡ b → Follows lent (item p o z (letter n)) s v (cond b (Err NoPitch) (Ok (record v {
          notes = changed note_size (pitched (pitch_of p n v)) v.notes (v.note_count - 1);
          accidentals = lettered n v;
          pending_accidental = none;
          chord_next = false;
        })))
        go true f = refused ∙ ap (λ (b : Bool). given (cond b (some 9) none) none (λ k. some (refusal k p))) f
        go false f =
            let new = joined s.open_bar h.stored ends (pitch_of p n v) (leb-false pitch_capacity (last_number PITCH_COUNT v) f) in
            record {
              fine = refused ∙ ap (λ (b : Bool). given (cond b (some 9) none) none (λ k. some (refusal k p))) f;
              holds = notes_held h refl refl refl refl refl new.1
                  (same_stored (rw e (unmarked (rules.add_pitch (rules.pitch_of s p n) s.open_bar) ∙ ap (λ (q : Pitch). rules.add_pitch q s.open_bar) (pitch_agrees h.values h.entered n low p))) refl refl new.0)
                  (letter_joined p o z h.values refl n e refl)
                  (entered_lettered h.values h.entered n low refl refl refl refl)
                  (turn_joined p o z h.values h.in_turn refl n e refl);
              list = refl;
              count = refl;
            }

    -- 'otherwise .. it opens a record'
    follows_opened : rules.joins s ≡ false → Follows lent (item p o z (letter n)) s v (after_opened p n v)
    unfolding step
    follows_opened e = room-follows lent (item p o z (letter n)) s h.stored h.lends 1 _ (rw e) (λ fine few fits.
        let x : Note = record { heading = opened_heading p v; pitches = pitch_of p n v ∷ []; notations = rules.plain v.tie_pending } in
        let new = added h.stored x few fits in
        let front : rules.opened_note s p n ≡ x = λ i. record { heading = heading_agrees h.values h.in_turn p i; pitches = pitch_agrees h.values h.entered n low p i ∷ []; notations = rules.plain (h.values.tie_pending i) } in
        record {
          fine = fine;
          holds = notes_held h refl refl refl refl refl new.1
              (same_stored (rw e (λ i. front i ∷ unmarked s.open_bar i)) refl refl new.0)
              (letter_opened p o z h.values refl n e refl)
              (entered_lettered h.values h.entered n low refl refl refl refl)
              (turn_opened p o z h.values h.in_turn refl n e refl);
          list = refl;
          count = refl;
        })

    pub follows_letter : Follows lent (item p o z (letter n)) s v (after_letter p n v)
    follows_letter = subst (λ (b : Bool). Follows lent (item p o z (letter n)) s v (cond b (after_joined p n v) (after_opened p n v))) (sym (joins-same h.values h.stored)) (go (rules.joins s) refl)
      where
        go : (b : Bool) → rules.joins s ≡ b → Follows lent (item p o z (letter n)) s v (cond b (after_joined p n v) (after_opened p n v))
        go true e = follows_joined e
        go false e = follows_opened e
