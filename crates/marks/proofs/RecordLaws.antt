-- Kinds and pitches of notes by their words, and one more finding. Assumes nothing.
use Rattle.std.proofs.Common.{ℕ, zero, suc, ◌≡◌, ◌+◌, ◌<◌, ◌∙◌, refl, List, [], ◌∷◌, ◌++◌, ℤ, pos, negsuc, length, take, drop, get_or, slice_index_or, subst, sym, ap}
use Rattle.std.proofs.lemmas.List.{take_more}
use Rattle.std.specs.Prelude.{Result, Ok, Err, Option, Some, None}
use Rattle.std.specs.Result.{result_unwrap_or}
use Rattle.std.specs.List.{cons_option}
use Rattle.tokens.specs.declared.numbers.UnknownWord.{UnknownWord}
use Rattle.tokens.specs.Words.{ReadsBy}
use Rattle.stores.specs.Notes.{kind_number}
use Rattle.stores.specs.declared.note.NoteKind.{NoteKind}
use Rattle.stores.specs.declared.note.NoteKind.TheVariants.{Note, Rest, Grace, SlashedGrace, WholeBarRest}
use Rattle.stores.specs.declared.cells.TheConstants.{PITCH, FIRST_PITCH}
use Rattle.stores.specs.declared.note.Pitch.{Pitch}
use Rattle.stores.specs.declared.diagnostic.Diagnostic.{Diagnostic}
use Rattle.marks.specs.declared.findings.Finding.{Finding}
use Rattle.marks.specs.Records.{kind_of, records_in, TheOne, IsPitch, IsPitchAt}
use Rattle.marks.specs.Findings.{IsFinding, AreFindings}

-- a word that is the number of no kind
pub no_kind : (word : ℤ) → ((a : NoteKind) → pos (kind_number a) ≡ word → ⊥) → kind_of word ≡ WholeBarRest
no_kind (negsuc n) h = refl
no_kind (pos zero) h = absurd (h Note refl)
no_kind (pos (suc zero)) h = absurd (h Rest refl)
no_kind (pos (suc (suc zero))) h = absurd (h Grace refl)
no_kind (pos (suc (suc (suc zero)))) h = absurd (h SlashedGrace refl)
no_kind (pos (suc (suc (suc (suc n))))) h = refl

pub kind_numbered : (a : NoteKind) → kind_of (pos (kind_number a)) ≡ a
kind_numbered Note = refl
kind_numbered Rest = refl
kind_numbered Grace = refl
kind_numbered SlashedGrace = refl
kind_numbered WholeBarRest = refl

pub kind_read : (word : ℤ) (r : Result NoteKind UnknownWord) → ReadsBy kind_number word r → result_unwrap_or r WholeBarRest ≡ kind_of word
kind_read word (Ok a) h = subst (λ w. a ≡ kind_of w) h (sym (kind_numbered a))
kind_read word (Err e) h = sym (no_kind word h.1)

-- a pitch is that of the words of its number
pub pitch_at : (words : List ℤ) (which : ℕ) (part : List ℤ) (pitches : List (List ℤ)) (own : List ℤ) (r : Option Pitch)
    → part ≡ drop FIRST_PITCH words → pitches ≡ records_in PITCH part → which < length pitches → own ≡ slice_index_or pitches which []
    → TheOne (IsPitch own) r → TheOne (IsPitchAt words which) r
pitch_at words which part pitches own r p k w e one = go r (k ∙ ap (records_in PITCH) p) one
  where
    go : (r : Option Pitch) → pitches ≡ records_in PITCH (drop FIRST_PITCH words) → TheOne (IsPitch own) r → TheOne (IsPitchAt words which) r
    go None p one = λ q h. one q (subst (λ own. IsPitch own q) (sym (e ∙ ap (λ ps. slice_index_or ps which []) p)) h.pitch)
    go (Some q) p one = record { within = subst (λ ps. which < length ps) p w; pitch = subst (λ own. IsPitch own q) (e ∙ ap (λ ps. slice_index_or ps which []) p) one }

-- one more diagnostic, and what is read of it
pub findings_push : (ds : List Diagnostic) (findings : List Finding) (d : Diagnostic) (r : Option Finding)
    → AreFindings ds findings → TheOne (IsFinding d) r → AreFindings (ds ++ d ∷ []) (findings ++ cons_option r [])
findings_push [] findings d r h one = record { first = r; behind = []; read = one; others = refl; all = subst (λ fs. fs ++ cons_option r [] ≡ cons_option r []) (sym h) refl }
findings_push (x ∷ ds) findings d r h one = record { first = h.first; behind = h.behind ++ cons_option r []; read = h.read; others = findings_push ds h.behind d r h.others one; all = subst (λ fs. fs ++ cons_option r [] ≡ cons_option h.first (h.behind ++ cons_option r [])) (sym h.all) (cons_append h.first h.behind (cons_option r [])) }
  where
    cons_append : (r : Option Finding) (fs gs : List Finding) → cons_option r fs ++ gs ≡ cons_option r (fs ++ gs)
    cons_append None fs gs = refl
    cons_append (Some f) fs gs = refl

pub findings_more : (ds : List Diagnostic) (i : ℕ) (findings next : List Finding) (d : Diagnostic) (r : Option Finding)
    → i < length ds → AreFindings (take i ds) findings → TheOne (IsFinding (get_or ds i d)) r → next ≡ findings ++ cons_option r []
    → AreFindings (take (i + 1) ds) next
findings_more ds i findings next d r w h one e = rw (take_more ds i d w, e) (findings_push (take i ds) findings (get_or ds i d) r h one)
