-- Numbers from text: one digit or more, and nothing else.
use Rattle.std.specs.Prelude.{ℕ, ◌^◌, Bool, true, ◌&&◌, List, [], ◌∷◌, length, drop, Some, None, Option, nat_le, nat_lt, if◌then◌else◌}
use Rattle.std.specs.Char.{is_digit}
use Rattle.std.specs.List.{list_all, take_while}
use Rattle.std.specs.Option.{option_map}
use Rattle.std.specs.Str.Parse.{digits_value}

-- one digit or more in a radix, and nothing else
abbrev pub is_numeral : ℕ → List ℕ → Bool
is_numeral radix text = nat_lt 0 (length text) && list_all (λ b. is_digit b radix) text

-- what a text writes in a radix: the value of a numeral, where it is below 2 ^ 32
abbrev pub value : ℕ → List ℕ → Option ℕ
value radix text = if is_numeral radix text && nat_lt (digits_value radix text) (2 ^ 32) then Some (digits_value radix text) else None

-- there are digits, 0 to 9 and then a to z, small or capital, for the radixes from 2 to 36; in another one nothing is a number
abbrev pub number : ℕ → List ℕ → Option ℕ
number radix text = if nat_le 2 radix && nat_le radix 36 then value radix text else None

-- the digits of a radix that stand at a text's front
abbrev pub front : ℕ → List ℕ → List ℕ
front radix text = take_while (λ b. is_digit b radix) text

-- the number that these write, and what follows them
abbrev pub leading : ℕ → List ℕ → Option (ℕ × List ℕ)
leading radix text = option_map (λ n. (n, drop (length (front radix text)) text)) (number radix (front radix text))

-- a text is at its end, or at a byte that passes a test
abbrev pub ends : (ℕ → Bool) → List ℕ → Bool
ends stop [] = true
ends stop (b ∷ bs) = stop b
