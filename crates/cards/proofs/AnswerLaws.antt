-- The writer's three answers, from what the code finds. Assumes nothing.
use Prim.Native.Nat.{ℕ, ◌-◌, ◌<◌}
use native.Mathlib.Omega.{arith}
use native.Mathlib.Nat.{sub-zero}
use mathlib.Core.Path.{◌≡◌, sym, ap, ◌∙◌}
use mathlib.Core.Bool.{false≢true}
use mathlib.Core.Option.{none, some}
use mathlib.Core.List.{List, [], append-nil}
use lib.IntN.{ℤ}
use lib.ListN.{length, drop, length-drop}
use lib.Seq.{length-take-le}
use borrow.Author.Tests.{le-leb, lt-leb}
use borrow.Rule.Slice.PartMut.{put_mid, post_of}
use Rattle.std.proofs.lemmas.List.{drop_all}
use Rattle.std.proofs.Common.{Result, Ok, Err}
use Rattle.std.specs.Result.{result_unwrap_or}
use Rattle.cards.specs.Card.{Form, card_of}
use Rattle.cards.specs.Answers.{no_bytes, Written}
use Rattle.cards.specs.Written.{records_in, Puts, written}
use Rattle.cards.specs.declared.error.CardError.{CardError}
use Rattle.cards.specs.declared.error.CardError.TheVariants.{Invalid, NoRoom}
use Rattle.cards.proofs.RecordLaws.{cells-such, cells-hold}

module _ (form : Form) (large : form.greatest < 4294967295) (notes bars : List ℤ) where
  past : (k : ℕ) (after : List ℕ) → post_of k (length after - k) after ≡ []
  past k after = drop_all (length after - k) (drop k after) (omega (arith, length-drop k after))

  -- where all behind the result's length is cleared
  pub answered : (r : Result ℕ CardError) (before after : List ℕ) → Puts form notes bars before r after
      → Written form notes bars (length before) (written r (put_mid (result_unwrap_or r 0) (length after - result_unwrap_or r 0) after (no_bytes (length after - result_unwrap_or r 0))))
  answered (Ok n) before after p =
      let l = records_in notes bars in
      let such = p.put.0 in
      let size : length (card_of form l) ≡ n = ap length (sym p.put.2) ∙ length-take-le n after p.put.1 in
      record {
        records = some l;
        right = cells-hold form large notes bars such;
        equals = rw (le-leb (length (card_of form l)) (length before) (omega (arith, size, p.put.1, p.same_room)), size, past n after, append-nil, p.same_room, p.put.2);
      }
  answered (Err Invalid) before after p = record { records = none; right = λ l h. false≢true (sym p.put ∙ cells-such form notes bars l h); equals = rw (past 0 after, append-nil, sub-zero, p.same_room) }
  answered (Err NoRoom) before after p =
      let l = records_in notes bars in
      record { records = some l; right = cells-hold form large notes bars p.put.0; equals = rw (lt-leb (length (card_of form l)) (length before) p.put.1, past 0 after, append-nil, sub-zero, p.same_room) }
