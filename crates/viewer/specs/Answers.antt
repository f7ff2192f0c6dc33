-- The value of every answer, and what a watch looks for.
use Rattle.std.specs.Prelude.{ℕ, Bool, List, Some, None, Option, Ok, Err, Result, ◌==◌, bit_and, count_ones, nat_le, nat_lt, slice_index}
use Rattle.terms.specs.declared.Place.{Place}
use Rattle.terms.specs.declared.Refusal.{Refusal}
use Rattle.terms.specs.Refusals.{number, place as placed}
use Rattle.viewer.specs.declared.Watch.{Watch}
use Rattle.viewer.specs.declared.Watch.TheVariants.{Equal, Ones}
use Rattle.viewer.specs.declared.Answer.{Answer}
use Rattle.viewer.specs.declared.Answer.TheVariants.{Total, Reached, Returned, Found, Turned, Word, Steps}

-- what an answer tells: the total, a scan, none, a word, a count; of a refusal its number and its place, if it has one
pub data Value : Type 0 where
  total : ℕ → Value
  scan : ℕ → Value
  none : Value
  word : ℕ → Value
  count : ℕ → Value
  refusal : ℕ → Option Place → Value

abbrev pub value_of : Result Answer Refusal → Value
value_of (Ok (Total n)) = total n
value_of (Ok (Reached at)) = scan at.0
value_of (Ok (Returned at)) = scan at.0
value_of (Ok (Found None)) = none
value_of (Ok (Found (Some at))) = scan at.0
value_of (Ok (Turned at)) = scan at.0
value_of (Ok (Word w)) = word w
value_of (Ok (Steps n)) = count n
value_of (Err why) = refusal (number why) (placed why)

-- the word that a watch looks at
abbrev pub watched : Watch → ℕ
watched (Equal w mask value) = w
watched (Ones w least) = w

-- whether states of so many words have that word
abbrev pub fits : Watch → ℕ → Bool
fits watch wide = nat_lt (watched watch) wide

-- whether a watch holds in a state
abbrev pub holds : Watch → List ℕ → Bool
holds (Equal w mask value) x = bit_and (slice_index x w) mask == bit_and value mask
holds (Ones w least) x = nat_le least (count_ones (slice_index x w))
