use Rattle.std.proofs.Common.{arith, sym, ap, ◌∙◌, ◌≡◌, ◌≤◌, ◌*◌, ◌/◌, rules, w32, pos, get_or, take, drop, length, List, ◌++◌, ◌∷◌, [], ℤ}
use mathlib.Core.Bool.{false≢true}
use mathlib.Core.List.{append_assoc, append-nil}
use mir.Val.{SFits}
use lib.ListN.{length-append, length-drop}
use lib.Seq.{length-take-le}
use borrow.Author.Tests.{le-leb}
use Rattle.std.specs.Slice.Iter.{chunks_exact_rest, chunks_exact_size}
use Rattle.std.proofs.lemmas.Int.{to_z-of_z}
use Rattle.std.proofs.lemmas.Result.{MatchResult-from_err}
use Rattle.rules.specs.Limits.{pitch_size}
use Rattle.cards.specs.Fields.{every}
use Rattle.cards.specs.Pieces.{parts}
use Rattle.cards.specs.Judged.{natural, number_at, pitch_of}
use Rattle.cards.specs.Card.{such_pitch}
use Rattle.cards.specs.Card as card
use Rattle.cards.specs.Values.{card_pitch, card_pitches}
use Rattle.cards.proofs.PartLaws.{part_is}
use Rattle.cards.proofs.ChunkLaws.{chunks, chunks_taken, chunks_cut, pitch_chunks, every_among}
use Rattle.cards.proofs.TakenLaws.{every_more}
use Rattle.cards.proofs.notes.Note.pitches_of_words.Goals as goal

pub loop-own-init : goal.loop-own-init
unfolding every
loop-own-init g c =
    let w = c.args.words.now in
    let k = c.from-count.result in
    let gives = c.into_iter-own-iterator.ensures.into_iter_gives in
    let own : List ℤ = take (k * pitch_size) (drop 12 w) in
    let rest : chunks_exact_rest c.into_iter-own-iterator.result ≡ own = ap chunks_exact_rest gives ∙ c.chunks_exact-own-items.ensures.rest ∙ part_is w 12 (k * 4) in
    let few : k * pitch_size ≤ length (drop 12 w) = omega (arith, c.requires, c.from-count.ensures, c.in_ok-up_to.ensures.1, length-drop 12 w) in
    let long : length own / pitch_size ≡ k = omega (arith, length-take-le (k * pitch_size) (drop 12 w) few) in
    record {
      size = ap chunks_exact_size gives ∙ c.chunks_exact-own-items.ensures.size;
      counted = omega (arith, c.new-pitches.ensures.none, ap (λ (l : List ℤ). length l / pitch_size) rest ∙ long);
      are = (λ i. c.new-pitches.ensures.empty i ++ chunks pitch_of pitch_size (length (rest i) / pitch_size) (rest i)) ∙ rw long (chunks_taken pitch_of pitch_size k (drop 12 w) ∙ pitch_chunks k (drop 12 w) few);
      such = rw c.new-pitches.ensures.empty;
    }

pub returns-in_err-up_to : goal.returns-in_err-up_to
returns-in_err-up_to g c =
    let f : SFits w32 (get_or c.args.words.now 10 (pos 0)) = search rules in
    let e = simp to_z-of_z at c.in_err-up_to.ensures in
    MatchResult-from_err _ _ _ c.from_residual.ensures.0 (λ _ few _. false≢true (sym e ∙ le-leb (number_at c.args.words.now 10) 8 few))

pub returns-in_err-pitch : goal.returns-in_err-pitch
returns-in_err-pitch g c =
    let w = c.args.words.now in
    let l = c.loop-own in
    let s = c.in-Some.ensures.steps in
    let such = such_pitch g.W.PlaceWidth.form in
    let f : SFits w32 (get_or w 10 (pos 0)) = search rules in
    let count = c.from-count.ensures ∙ ap natural (simp to_z-of_z at c.in_ok-up_to.ensures).0 in
    let cut = chunks_cut pitch_of pitch_size (omega arith) _ _ _ s.1.0 (s.1.1 ∙ l.invariant.size) in
    let are = ap (λ (m : List card.Pitch). card_pitches l.pitches ++ m) (sym cut) ∙ l.invariant.are ∙ ap (λ n. parts pitch_of pitch_size n (drop 12 w)) count in
    MatchResult-from_err _ _ _ c.from_residual-in_err-pitch.ensures.0 (λ _ few all.
    false≢true (sym c.in_err-pitch.ensures ∙ every_among such (card_pitches l.pitches) _ (pitch_of c.in-Some.own.now) (ap (every such) are ∙ all)))

pub push-requires : goal.push-requires
push-requires g c =
    let l = c.loop-own in
    let s = c.in-Some.ensures.steps in
    omega (arith, l.invariant.counted, ap length s.1.0, length-append c.in-Some.own.now (chunks_exact_rest c.next.new.self), s.1.1, l.invariant.size, c.in_ok-up_to.ensures.1, c.from-count.ensures)

pub loop-own-preserved : goal.loop-own-preserved
loop-own-preserved g c =
    let l = c.loop-own in
    let v = l.invariant in
    let s = c.in-Some.ensures.steps in
    let q = c.in_ok-pitch.ensures in
    let such = such_pitch g.W.PlaceWidth.form in
    let before = card_pitches l.pitches in
    let rest : List ℤ = chunks_exact_rest c.next.new.self in
    let behind = chunks pitch_of pitch_size (length rest / pitch_size) rest in
    let cut = chunks_cut pitch_of pitch_size (omega arith) _ _ _ s.1.0 (s.1.1 ∙ v.size) in
    record {
      size = s.0 ∙ v.size;
      counted = omega (arith, c.push.ensures.counted, v.counted, ap length s.1.0, length-append c.in-Some.own.now rest, s.1.1, v.size);
      are = (λ i. c.push.ensures.pushed i ++ behind) ∙ (λ i. (before ++ q.0 i ∷ []) ++ behind) ∙ append_assoc before (pitch_of c.in-Some.own.now ∷ []) behind ∙ ap (λ (m : List card.Pitch). before ++ m) (sym cut) ∙ v.are;
      such = ap (every such) c.push.ensures.pushed ∙ every_more such before (card_pitch c.in_ok-pitch.pitch) v.such (ap such q.0 ∙ q.1);
    }

pub returns : goal.returns
unfolding parts
returns g c =
    let w = c.args.words.now in
    let l = c.loop-own in
    let v = l.invariant in
    let s = c.in-None.ensures.steps in
    let f : SFits w32 (get_or w 10 (pos 0)) = search rules in
    let k = simp to_z-of_z at c.in_ok-up_to.ensures in
    let count = c.from-count.ensures ∙ ap natural k.0 in
    let none : length (chunks_exact_rest l.own-iterator) / pitch_size ≡ 0 = omega (arith, s.1.0, v.size) in
    let are = rw none at v.are in
    record {
      few = omega (arith, c.from-count.ensures, count, k.1);
      count = omega (arith, v.counted, none, count);
      are = sym (append-nil (card_pitches l.pitches)) ∙ are ∙ ap (λ n. parts pitch_of pitch_size n (drop 12 w)) count;
      such = v.such;
    }
