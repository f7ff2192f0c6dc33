-- The result of a call that a kept reply stands for.
use Rattle.std.specs.Prelude.{Ok, Err, Result}
use Rattle.terms.specs.declared.Refusal.{Refusal}
use Rattle.viewer.specs.declared.Answer.{Answer}
use Rattle.viewer.specs.declared.Answer.TheVariants.{Total, Reached, Returned, Found, Turned, Word, Steps}
use Rattle.viewer.specs.declared.Reply.{Reply}
use Rattle.viewer.specs.declared.Reply.TheVariants as kept

-- each reply stands for one result, and each result for one reply
abbrev pub result_of : Reply → Result Answer Refusal
result_of (kept.Total n) = Ok (Total n)
result_of (kept.Reached at) = Ok (Reached at)
result_of (kept.Returned at) = Ok (Returned at)
result_of (kept.Found found) = Ok (Found found)
result_of (kept.Turned at) = Ok (Turned at)
result_of (kept.Word w) = Ok (Word w)
result_of (kept.Steps n) = Ok (Steps n)
result_of (kept.Refused why) = Err why
