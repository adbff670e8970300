-- The two promises together: each leaves one answer; reading a written card gives the same records, and writing what a card reads to gives the same card. Assumes nothing.
use Prim.Native.Nat.{ℕ, suc, ◌+◌, ◌-◌, ◌*◌, ◌/◌, ◌^◌, ◌<◌, ◌≤◌}
use native.Mathlib.Omega.{arith}
use native.Mathlib.Nat.{mul-div_cancel}
use mathlib.Core.Path.{◌≡◌, refl, ap, sym, ◌∙◌}
use mathlib.Core.Bool.{Bool, true, false, cond, ◌&&◌}
use mathlib.Core.Option.{Option, none, some}
use mathlib.Core.List.{List, [], ◌∷◌, ◌++◌, append_assoc, append-nil}
use lib.IntN.{ℤ}
use lib.ListN.{length, take}
use lib.Seq.{take_at, drop_at}
use lib.Dec.{leb}
use borrow.Author.Tests.{le-leb}
use Rattle.rules.specs.Limits.{note_size, bar_size}
use Rattle.rules.specs.Words.{zeros, padded}
use Rattle.std.proofs.lemmas.Bool.{and_parts}
use Rattle.cards.specs.Fields.{every, each}
use Rattle.cards.specs.Pieces.{parts}
use Rattle.cards.specs.Card.{Note, Bar, Form, such_note, such_bar, note_count, card_of}
use Rattle.cards.specs.Words.{note_words, head_words, note_cells, bar_cells}
use Rattle.cards.specs.Judged.{number_at, head_of}
use Rattle.cards.specs.Records.{notes_of, bars_of}
use Rattle.cards.specs.Answers.{Found, Holds, Write, no_bytes, write_refused, write_of, Written, HasCard, Read, read_refused, read_of, ReadBack}
use Rattle.cards.proofs.SuchLaws.{note-of-words}
use Rattle.cards.proofs.HeadLaws.{length-head-words, head-of-words, count-of-words}
use Rattle.cards.proofs.CardTaken.{card-alone}
use Rattle.cards.proofs.RecordLaws.{length-note-words, such-few, length-notes, bar-such, such-bars, length-note-cells, length-bar-cells}

-- ---- such records from their words

module _ (form : Form) where
  notes-of : (bar : ℕ) (ns : List Note) (r : List ℤ) → every (such_note form) ns ≡ true → notes_of (length ns) (each (note_words bar) ns ++ r) ≡ ns
  unfolding parts each every
  notes-of bar [] r h = refl
  notes-of bar (n ∷ ns) r h =
      let t = and_parts (such_note form n) (every (such_note form) ns) h in
      let size = length-note-words bar n (such-few form n t.0) in
      let rest = each (note_words bar) ns ++ r in
      rw (append_assoc (note_words bar n) (each (note_words bar) ns) r, take_at (note_words bar n) rest note_size size, drop_at (note_words bar n) rest note_size size, note-of-words form bar n t.0) (ap (λ (l : List Note). n ∷ l) (notes-of bar ns r t.1))

  bars-of : (number first : ℕ) (l : List Bar) → every (such_bar form) l ≡ true → bars_of (length l) (note_cells number l) (bar_cells first l) ≡ l
  unfolding bars_of note_cells bar_cells every
  bars-of number first [] h = refl
  bars-of number first (b ∷ l) h =
      let t = and_parts (such_bar form b) (every (such_bar form) l) h in
      let s = bar-such form b t.0 in
      let c = length b.notes in
      let words = head_words first c b.head in
      let later = bar_cells (first + c) l in
      let own = each (note_words number) b.notes in
      let behind = note_cells (suc number) l in
      let front : take bar_size (words ++ later) ≡ words = take_at words later bar_size (length-head-words first c b.head) in
      let head : head_of words ≡ b.head = ap head_of (sym (append-nil words)) ∙ head-of-words first c b.head [] in
      let count : number_at words 1 ≡ c = ap (λ (w : List ℤ). number_at w 1) (sym (append-nil words)) ∙ count-of-words first c b.head [] in
      rw (
        front,
        count,
        head,
        notes-of number b.notes behind s.2,
        drop_at own behind (c * note_size) (length-notes form number b.notes s.2),
        drop_at words later bar_size (length-head-words first c b.head),
      )
      (ap (λ (m : List Bar). b ∷ m) (bars-of (suc number) (first + c) l t.1))

  -- no two such records have the same words
  pub words-alone : {notes bars : List ℤ} (l m : List Bar) → Holds form notes bars l → Holds form notes bars m → l ≡ m
  words-alone {notes} {bars} l m h k =
      let a : length bars ≡ length l * bar_size = ap length h.bar_words ∙ length-bar-cells 0 l in
      let b : length bars ≡ length m * bar_size = ap length k.bar_words ∙ length-bar-cells 0 m in
      let e : length l ≡ length m = omega arith in
      sym (bars-of 1 0 l (such-bars form l h.are)) ∙ (λ i. bars_of (e i) ((sym h.note_words ∙ k.note_words) i) ((sym h.bar_words ∙ k.bar_words) i)) ∙ bars-of 1 0 m (such-bars form m k.are)

-- ---- one answer

found-alone : {A : Type 0} (P : A → Type 0) → ((x y : A) → P x → P y → x ≡ y) → (a b : Option A) → Found P a → Found P b → a ≡ b
found-alone P alone none none f g = refl
found-alone P alone none (some y) f g = absurd (f y g)
found-alone P alone (some x) none f g = absurd (g x f)
found-alone P alone (some x) (some y) f g = ap some (alone x y f g)

-- the writer's
pub written-alone : (form : Form) {notes bars : List ℤ} {size : ℕ} {a b : Write} → Written form notes bars size a → Written form notes bars size b → a ≡ b
written-alone form {notes} {bars} {size} v w =
    v.equals ∙ ap (write_of form size) (found-alone (Holds form notes bars) (λ x y. words-alone form x y) v.records w.records v.right w.right) ∙ sym w.equals

-- the answer to the words of such records
pub written_of : (form : Form) {notes bars : List ℤ} {size : ℕ} {w : Write} (l : List Bar) → Holds form notes bars l → Written form notes bars size w → w ≡ write_of form size (some l)
written_of form {notes} {bars} {size} l h v = v.equals ∙ ap (write_of form size) (found-alone (Holds form notes bars) (λ x y. words-alone form x y) v.records (some l) v.right h)

module _ (form : Form) (fits : form.greatest < 256 ^ form.width) where
  has-alone : (card : List ℕ) (l m : List Bar) → HasCard form card l → HasCard form card m → l ≡ m
  has-alone card l m h k = card-alone form fits l m h.are k.are (sym h.bytes ∙ k.bytes)

  -- the reader's
  pub read-alone : {card : List ℕ} {notes bars : ℕ} {a b : Read} → ReadBack form card notes bars a → ReadBack form card notes bars b → a ≡ b
  read-alone {card} {notes} {bars} v w =
      v.equals ∙ ap (read_of notes bars) (found-alone (HasCard form card) (has-alone card) v.records w.records v.right w.right) ∙ sym w.equals

  -- the answer to the card of such records
  pub read-of : {card : List ℕ} {n b : ℕ} {r : Read} (l : List Bar) → HasCard form card l → ReadBack form card n b r → r ≡ read_of n b (some l)
  read-of {card} {n} {b} l h u = u.equals ∙ ap (read_of n b) (found-alone (HasCard form card) (has-alone card) u.records (some l) u.right h)

  -- ---- there and back

  -- what an accepted writing says
  written-card : (size : ℕ) (l : List Bar) (w : Write) → w ≡ write_of form size (some l) → w.number ≡ 0 → (w.card ≡ card_of form l ++ no_bytes (size - length (card_of form l))) × (w.length ≡ length (card_of form l))
  written-card size l w e z = go (leb (length (card_of form l)) size) e
    where
      go : (b : Bool) → w ≡ cond b (record { number = 0; length = length (card_of form l); card = card_of form l ++ no_bytes (size - length (card_of form l)) }) (write_refused 15 size) → (w.card ≡ card_of form l ++ no_bytes (size - length (card_of form l))) × (w.length ≡ length (card_of form l))
      go true f = (ap (λ (x : Write). x.card) f, ap (λ (x : Write). x.length) f)
      go false f = absurd (let y : 15 ≡ 0 = sym (ap (λ (x : Write). x.number) f) ∙ z in omega arith)

  -- reading a written card gives the same records
  pub read-written : {notes bars : List ℤ} {size n b : ℕ} {w : Write} {r : Read} → Written form notes bars size w → w.number ≡ 0 → ReadBack form (take w.length w.card) n b r → length notes ≤ n → length bars ≤ b
      → r ≡ record { number = 0; notes = length notes / note_size; bars = length bars / bar_size; note_cells = padded n notes; bar_cells = padded b bars }
  read-written {notes} {bars} {size} {n} {b} {w} {r} v z u roomy wide = go v.records v.right v.equals
    where
      go : (x : Option (List Bar)) → Found (Holds form notes bars) x → w ≡ write_of form size x → r ≡ record { number = 0; notes = length notes / note_size; bars = length bars / bar_size; note_cells = padded n notes; bar_cells = padded b bars }
      go none f e = absurd (let y : 14 ≡ 0 = sym (ap (λ (x : Write). x.number) e) ∙ z in omega arith)
      go (some l) h e =
          let c = written-card size l w e z in
          let card : take w.length w.card ≡ card_of form l = (λ i. take (c.1 i) (c.0 i)) ∙ take_at (card_of form l) (no_bytes (size - length (card_of form l))) (length (card_of form l)) refl in
          let has : HasCard form (take w.length w.card) l = record { are = h.are; bytes = card } in
          let ns : length notes ≡ note_count l * note_size = ap length h.note_words ∙ length-note-cells form 1 l (such-bars form l h.are) in
          let bs : length bars ≡ length l * bar_size = ap length h.bar_words ∙ length-bar-cells 0 l in
          let count : note_count l ≡ length notes / note_size = sym (ap (λ (k : ℕ). k / note_size) ns ∙ mul-div_cancel (note_count l) (omega arith)) in
          let bar_count : length l ≡ length bars / bar_size = sym (ap (λ (k : ℕ). k / bar_size) bs ∙ mul-div_cancel (length l) (omega arith)) in
          let note_room : leb (length (note_cells 1 l)) n ≡ true = le-leb (length (note_cells 1 l)) n (omega (arith, ap length h.note_words)) in
          let bar_room : leb (length (bar_cells 0 l)) b ≡ true = le-leb (length (bar_cells 0 l)) b (omega (arith, ap length h.bar_words)) in
          read-of l has u ∙ rw (note_room, bar_room) (λ i. record { number = 0; notes = count i; bars = bar_count i; note_cells = padded n (sym h.note_words i); bar_cells = padded b (sym h.bar_words i) })

  -- what an accepted reading says
  read-cells : (n b : ℕ) (l : List Bar) (r : Read) → r ≡ read_of n b (some l) → r.number ≡ 0 → (r.notes ≡ note_count l) × (r.bars ≡ length l) × (r.note_cells ≡ padded n (note_cells 1 l)) × (r.bar_cells ≡ padded b (bar_cells 0 l))
  read-cells n b l r e z = go (leb (length (note_cells 1 l)) n && leb (length (bar_cells 0 l)) b) e
    where
      go : (t : Bool) → r ≡ cond t (record { number = 0; notes = note_count l; bars = length l; note_cells = padded n (note_cells 1 l); bar_cells = padded b (bar_cells 0 l) }) (read_refused 15 n b)
          → (r.notes ≡ note_count l) × (r.bars ≡ length l) × (r.note_cells ≡ padded n (note_cells 1 l)) × (r.bar_cells ≡ padded b (bar_cells 0 l))
      go true f = (ap (λ (x : Read). x.notes) f, ap (λ (x : Read). x.bars) f, ap (λ (x : Read). x.note_cells) f, ap (λ (x : Read). x.bar_cells) f)
      go false f = absurd (let y : 15 ≡ 0 = sym (ap (λ (x : Read). x.number) f) ∙ z in omega arith)

  -- writing what a card reads to gives the same card
  pub written_read : {card : List ℕ} {n b size : ℕ} {r : Read} {w : Write} → ReadBack form card n b r → r.number ≡ 0 → Written form (take (r.notes * note_size) r.note_cells) (take (r.bars * bar_size) r.bar_cells) size w → length card ≤ size
      → w ≡ record { number = 0; length = length card; card = card ++ no_bytes (size - length card) }
  written_read {card} {n} {b} {size} {r} {w} u z v roomy = go u.records u.right u.equals
    where
      go : (x : Option (List Bar)) → Found (HasCard form card) x → r ≡ read_of n b x → w ≡ record { number = 0; length = length card; card = card ++ no_bytes (size - length card) }
      go none f e = absurd (let y : 14 ≡ 0 = sym (ap (λ (x : Read). x.number) e) ∙ z in omega arith)
      go (some l) h e =
          let c = read-cells n b l r e z in
          let ns : length (note_cells 1 l) ≡ note_count l * note_size = length-note-cells form 1 l (such-bars form l h.are) in
          let bs : length (bar_cells 0 l) ≡ length l * bar_size = length-bar-cells 0 l in
          let notes : take (r.notes * note_size) r.note_cells ≡ note_cells 1 l = (λ i. take (c.0 i * note_size) (c.2 i)) ∙ take_at (note_cells 1 l) (zeros (n - length (note_cells 1 l))) (note_count l * note_size) ns in
          let bars : take (r.bars * bar_size) r.bar_cells ≡ bar_cells 0 l = (λ i. take (c.1 i * bar_size) (c.3 i)) ∙ take_at (bar_cells 0 l) (zeros (b - length (bar_cells 0 l))) (length l * bar_size) bs in
          let own : Holds form (take (r.notes * note_size) r.note_cells) (take (r.bars * bar_size) r.bar_cells) l = record { are = h.are; note_words = notes; bar_words = bars } in
          let room : leb (length (card_of form l)) size ≡ true = le-leb (length (card_of form l)) size (omega (arith, ap length h.bytes)) in
          written_of form l own v ∙ rw room (λ i. record { number = 0; length = length (sym h.bytes i); card = sym h.bytes i ++ no_bytes (size - length (sym h.bytes i)) })
