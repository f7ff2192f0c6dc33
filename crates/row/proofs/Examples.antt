-- The worked example, by computation.
use Rattle.std.proofs.Common.{refl}
use Rattle.row.specs.Cells.{bits, words}
use Rattle.row.specs.Examples.{Lone}

pub lone : Lone
unfolding Lone bits words
lone = refl
