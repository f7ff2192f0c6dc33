use Rattle.std.proofs.Common.{sym, ap, ◌∙◌, Option, Some, arith}
use Rattle.terms.specs.declared.Place.{Place}
use Rattle.source.specs.Signals.{wave}
use Rattle.source.proofs.Waves.{from_past, from_reads, wave_wraps}
use Rattle.source.proofs.signal.SignalSource.read.Goals as goal

pub returns-then-i-self : goal.returns-then-i-self
returns-then-i-self c = sym (from_past 0 c.args.self.now.total c.args.place.0 (omega arith))

pub returns : goal.returns
returns c =
    rw wave_wraps (ap (λ (o : Option Place). Some (wave c.args.place.0, o)) c.then_some.ensures ∙ sym (from_reads c.args.self.now.total c.args.place.0 (omega arith)))
