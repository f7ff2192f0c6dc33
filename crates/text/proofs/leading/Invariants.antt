use Rattle.std.proofs.Common.{◌≡◌, ◌<◌, ◌^◌}
use Rattle.text.proofs.Numerals.{Counted}
use Rattle.text.proofs.leading.Given as goal

abbrev pub invariant-loop-byte : goal.invariant-loop-byte
invariant-loop-byte l = Counted l.radix l.text l.byte-index l.number × (l.number < 2 ^ 32) × (l.count ≡ l.byte-index)
