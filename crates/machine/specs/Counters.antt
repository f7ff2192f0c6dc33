-- What a counter tells.
use Rattle.std.specs.Prelude.{ℕ}
use Rattle.machine.specs.declared.counter.Counter.{Counter}

-- the steps told
abbrev pub told : {M : Type 0} → Counter M → ℕ
told c = c.steps

-- the machine under the counter
abbrev pub under : {M : Type 0} → Counter M → M
under c = c.machine
