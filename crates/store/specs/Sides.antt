-- In which of two stores a slot of the pair lies.
use Rattle.std.specs.Prelude.{◌≡◌, ℕ, ◌+◌, ◌<◌}
use Rattle.store.specs.declared.pair.Side.{Side}
use Rattle.store.specs.declared.pair.Side.TheVariants.{First, Second}

-- a slot below the first store's number of slots is the first store's, and those of the second follow
abbrev pub Lies : (own slot : ℕ) → Side → Type 0
Lies own slot (First at) = (at ≡ slot) × (slot < own)
Lies own slot (Second at) = own + at ≡ slot
