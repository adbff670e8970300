-- Marks with one more behind them. Assumes nothing.
use Rattle.std.proofs.Common.{ℕ, zero, suc, ◌≡◌, ◌+◌, ◌-◌, ◌^◌, ◌<◌, ◌≤◌, Bool, true, false, List, [], ◌∷◌, ◌++◌, ℤ, refl, length, sym, ◌∙◌, ap, subst, arith, map, take, drop, slice_set, zero-add, one-add, reverse, length-drop, length-take-le}
use Rattle.std.proofs.lemmas.List.{reverse-append, append-nil, append_assoc, length-reverse, length-map, length_push, take-append-drop}
use Rattle.std.proofs.Math.Seq.{drop-append_seam}
use Rattle.marks.specs.declared.mark.Mark.{Mark}
use Rattle.rules.specs.Characters.{begun, continues, characters_in}
use Rattle.rules.specs.Cut.{token_size}
use Rattle.rules.specs.Tokens.{Item, item_at, items_after, items_of, token_of}
use Rattle.tokens.proofs.CutLaws.{items_nil, items_cut}
use Rattle.marks.specs.Marks.{item_in, items_in, bytes_in, end_at, IsMark, AreMarks, AreAll, entered, Enters, whole, capped, item_capped, AreAllCapped, EntersCapped}
use Rattle.marks.specs.Short.{token_at}

-- the number of the next record behind these marks
abbrev pub next_after : List (List ℤ) → ℕ → List Mark → ℕ
next_after notes first [] = first
next_after notes first (m ∷ behind) = next_after notes (end_at notes first m.place.0) behind

pub next_push : (notes : List (List ℤ)) (first : ℕ) (marks : List Mark) (m : Mark)
    → next_after notes first (marks ++ m ∷ []) ≡ end_at notes (next_after notes first marks) m.place.0
next_push notes first [] m = refl
next_push notes first (mark ∷ behind) m = next_push notes (end_at notes first mark.place.0) behind m

pub marks_push : (notes : List (List ℤ)) (number first : ℕ) (marks : List Mark) (m : Mark)
    → AreMarks notes number first marks
    → IsMark notes (number + length marks) (next_after notes first marks) m
    → AreMarks notes number first (marks ++ m ∷ [])
marks_push notes number first [] m h is = (subst (λ n. IsMark notes n first m) (omega arith) is, tt)
marks_push notes number first (mark ∷ behind) m h is =
    (h.0, marks_push notes (number + 1) (end_at notes first mark.place.0) behind m h.1 (subst (λ n. IsMark notes n (next_after notes (end_at notes first mark.place.0) behind) m) (omega arith) is))

pub items_push : (marks : List Mark) (m : Mark) → items_in (marks ++ m ∷ []) ≡ item_in m ∷ items_in marks
items_push marks m = rw (reverse-append marks (m ∷ []))

pub bytes_push : (marks : List Mark) (m : Mark) → bytes_in (marks ++ m ∷ []) ≡ bytes_in marks ++ m.text.now
bytes_push [] m = rw (append-nil m.text.now)
bytes_push (mark ∷ behind) m = rw (bytes_push behind m, append_assoc mark.text.now (bytes_in behind) m.text.now)

-- the bytes of one more mark, which stood before the rest
pub bytes_behind : (marks : List Mark) (m : Mark) (rest behind whole : List ℕ)
    → rest ≡ m.text.now ++ behind → bytes_in marks ++ rest ≡ whole → bytes_in (marks ++ m ∷ []) ++ behind ≡ whole
bytes_behind marks m rest behind whole e h = rw (bytes_push marks m, append_assoc (bytes_in marks) m.text.now behind, sym e, h)

-- no bytes are none
no_bytes : (xs : List ℕ) → length xs ≡ 0 → xs ≡ []
no_bytes [] e = refl
no_bytes (b ∷ bs) e = absurd (omega (arith, e))

-- what stands behind a token
pub behind_is : (xs : List ℕ) (b : ℕ) (v t : List ℕ) → xs ≡ b ∷ (v ++ t) → drop (1 + length v) xs ≡ t
behind_is xs b v t e = rw (e, one-add (length v)) (drop-append_seam v t)

-- ---- marks that are entered into a list

-- one more is written behind them, where there is room
pub entered_push : (marks list : List Mark) (m : Mark)
    → entered (marks ++ m ∷ []) list ≡ slice_set (entered marks list) (length marks) m
entered_push [] [] m = refl
entered_push [] (x ∷ list) m = refl
entered_push (k ∷ behind) [] m = refl
entered_push (k ∷ behind) (x ∷ list) m = ap (λ l. k ∷ l) (entered_push behind list m)

-- where there is room, they stand there
pub entered_all : (marks list : List Mark) → length marks ≤ length list → take (length marks) (entered marks list) ≡ marks
entered_all [] list h = refl
entered_all (k ∷ behind) [] h = absurd (omega (arith, h))
entered_all (k ∷ behind) (x ∷ list) h = ap (λ l. k ∷ l) (entered_all behind list (omega (arith, h)))

-- some marks were entered into the list `old`, so many, of so many tokens; what is left of the data stands behind them
pub record SoFar (notes : List (List ℤ)) (source : List ℕ) (old list : List Mark) (characters : ℕ) (rest : List ℕ) (next count : ℕ) : Type 0 where
  pub tokens : List Item
  pub marks : List Mark
  pub left : items_after 0 (characters + 1) (length source - length rest) rest tokens ≡ items_of (whole source)
  pub items : items_in marks ≡ map item_capped tokens
  pub bytes : bytes_in marks ++ rest ≡ source
  pub next_is : next ≡ next_after notes 0 marks
  pub records : AreMarks notes 0 0 marks
  pub counted : count ≡ length marks
  pub kept : list ≡ entered marks old

pub none_so_far : (notes : List (List ℤ)) (source : List ℕ) (old : List Mark) → SoFar notes source old old 0 source 0 0
none_so_far notes source old = record {
  tokens = [];
  marks = [];
  left = let none : length source - length source ≡ 0 = omega arith in ap (λ o. items_after 0 1 o source []) none;
  items = refl;
  bytes = refl;
  next_is = refl;
  records = tt;
  counted = refl;
  kept = refl;
}

-- one more token stands first, of n bytes behind its first, k characters
pub more_so_far : (notes : List (List ℤ)) (source : List ℕ) (old list list' : List Mark) (characters k n b : ℕ) (bs rest behind : List ℕ) (next next' count : ℕ) (m : Mark)
    → SoFar notes source old list characters rest next count
    → rest ≡ b ∷ bs
    → suc n ≡ token_size (b ∷ bs)
    → n ≤ length bs
    → k ≡ characters_in (take n bs)
    → behind ≡ drop n bs
    → length rest ≤ length source
    → IsMark notes count next m
    → m.place.0 ≡ capped (characters + 1)
    → m.start.0 ≡ capped (length source - length rest)
    → m.text.now ≡ b ∷ take n bs
    → next' ≡ end_at notes next m.place.0
    → list' ≡ slice_set list count m
    → SoFar notes source old list' (characters + (1 + k)) behind next' (count + 1)
more_so_far notes source old list list' characters k n b bs rest behind next next' count m s cut size within counts left room is place start text to written =
    let o = length source - length rest in
    let x : Item = record { place = characters + 1; offset = o; size = suc n; token = token_of b (take n bs) } in
    let further : o + suc n ≡ length source - length behind = omega (arith, ap length cut, ap length left, length-drop n bs, within, room) in
    let beyond : characters + 1 + 1 + characters_in (take n bs) ≡ characters + (1 + k) + 1 = omega (arith, counts) in
    let size_is : length m.text.now ≡ suc n = ap length text ∙ omega (arith, length-take-le n bs within) in
    let it : item_in m ≡ item_capped x = λ i. record { place = place i; offset = start i; size = size_is i; token = token_at (text i) } in
    record {
      tokens = x ∷ s.tokens;
      marks = s.marks ++ m ∷ [];
      left = (λ i. items_after 0 (sym beyond i) (sym further i) (left i) (x ∷ s.tokens))
          ∙ sym (items_cut (characters + 1) o n b bs s.tokens size)
          ∙ (λ i. items_after 0 (characters + 1) o (sym cut i) s.tokens) ∙ s.left;
      items = items_push s.marks m ∙ (λ i. it i ∷ s.items i);
      bytes = bytes_behind s.marks m rest behind source (cut ∙ ap (λ (ys : List ℕ). b ∷ ys) (sym (take-append-drop n bs)) ∙ (λ i. sym text i ++ sym left i)) s.bytes;
      next_is = to ∙ ap (λ n. end_at notes n m.place.0) s.next_is ∙ sym (next_push notes 0 s.marks m);
      records = marks_push notes 0 0 s.marks m s.records (subst (λ n. IsMark notes n (next_after notes 0 s.marks) m) (s.counted ∙ sym (zero-add (length s.marks))) (subst (λ n. IsMark notes count n m) s.next_is is));
      counted = rw (s.counted) (sym (length_push s.marks m));
      kept = written ∙ rw (s.kept, s.counted) (sym (entered_push s.marks old m));
    }

-- all are entered
module _ (notes : List (List ℤ)) (source : List ℕ) (old list : List Mark) (characters : ℕ) (rest : List ℕ) (next count : ℕ) (s : SoFar notes source old list characters rest next count) (none : length rest ≡ 0) where
  all_tokens : s.tokens ≡ items_of (whole source)
  all_tokens = sym (items_nil (characters + 1) (length source - length rest) rest s.tokens none) ∙ s.left

  all_of : AreAllCapped notes (whole source) s.marks
  all_of = record {
    items = s.items ∙ ap (λ (l : List Item). map item_capped l) all_tokens;
    bytes = sym (append-nil (bytes_in s.marks)) ∙ ap (λ l. bytes_in s.marks ++ l) (sym (no_bytes rest none)) ∙ s.bytes;
    records = s.records;
  }

  pub enters_all : EntersCapped notes (whole source) old list
  enters_all = record { marks = s.marks; all = all_of; kept = s.kept }

  pub counts_all : count ≡ length (items_of (whole source))
  counts_all = s.counted ∙ sym (length-reverse s.marks) ∙ sym (length-map (reverse s.marks) item_in) ∙ ap length s.items ∙ length-map s.tokens item_capped ∙ ap length all_tokens

  pub takes_all : count ≤ length old → AreAllCapped notes (whole source) (take count list)
  takes_all room =
      let stands : take count list ≡ s.marks = rw (s.kept, s.counted) (entered_all s.marks old (subst (λ n. n ≤ length old) s.counted room)) in
      subst (λ l. AreAllCapped notes (whole source) l) (sym stands) all_of

-- ---- data whose places and offsets a u32 holds

begun_one : (b : ℕ) → begun b ≤ 1
begun_one b = by (continues b) refl
  where
    by : (t : Bool) → continues b ≡ t → begun b ≤ 1
    by true e = rw e (omega arith)
    by false e = rw e (omega arith)

-- no token that is cut from such data is capped
held_after : (skip p o : ℕ) (bs : List ℕ) (before : List Item) → p ≤ o + 1 → o + length bs < 2 ^ 32 → map item_capped before ≡ before
    → map item_capped (items_after skip p o bs before) ≡ items_after skip p o bs before
unfolding items_after item_at
held_after skip p o [] before rise room h = h
held_after zero p o (b ∷ bs) before rise room h =
    let size = token_size (b ∷ bs) in
    let place : capped p ≡ p = omega (arith, rise, room) in
    let offset : capped o ≡ o = omega (arith, room) in
    held_after (size - 1) (p + 1) (o + 1) bs (item_at p o b bs ∷ before) (omega (arith, rise)) (omega (arith, room))
    (λ i. (record { place = place i; offset = offset i; size = size; token = token_of b (take (size - 1) bs) }) ∷ h i)
held_after (suc skip) p o (b ∷ bs) before rise room h =
    held_after skip (p + begun b) (o + 1) bs before (omega (arith, rise, begun_one b)) (omega (arith, room)) h

pub held : (source : List ℕ) → length source < 2 ^ 32 → map item_capped (items_of (whole source)) ≡ items_of (whole source)
held source room = held_after 0 1 0 source [] (omega arith) (omega (arith, room)) refl

pub all_held : (notes : List (List ℤ)) (source : List ℕ) (marks : List Mark) → length source < 2 ^ 32 → AreAllCapped notes (whole source) marks → AreAll notes (whole source) marks
all_held notes source marks room all = record { items = all.items ∙ held source room; bytes = all.bytes; records = all.records }

pub enters_held : (notes : List (List ℤ)) (source : List ℕ) (old new : List Mark) → length source < 2 ^ 32 → EntersCapped notes (whole source) old new → Enters notes (whole source) old new
enters_held notes source old new room e = record { marks = e.marks; all = all_held notes source e.marks room e.all; kept = e.kept }
