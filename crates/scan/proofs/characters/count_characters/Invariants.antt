use Rattle.std.proofs.Common.{◌≡◌, ◌+◌, ◌≤◌, drop}
use Rattle.rules.specs.Characters.{characters_in}
use Rattle.scan.proofs.characters.count_characters.Given as goal

abbrev pub invariant-loop-byte : goal.invariant-loop-byte
invariant-loop-byte l = record {
  within : l.count ≤ l.byte-index;
  count : characters_in l.part ≡ l.count + characters_in (drop l.byte-index l.part);
}
