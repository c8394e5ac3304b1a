-- The text of scripts, as bytes: what is read from it and what is written to it. Assumes nothing.
--
--   before stop bytes   how many bytes stand before the first byte stop
--   line_of text        the first line, without the byte 10 that ends it
--   after_line text     what follows that byte
--   on_first b ls       the lines ls with the byte b in front of the first
--   lines_in text       all the lines; a text that ends with byte 10 has no empty line after that
--   from_word line      the line from its first byte other than 32 on
--   word_of line        the first word: a run of bytes other than 32, after any bytes 32
--   after_word line     what follows the first word
--   on_word b bs ws     the words ws of bs with the byte b in front of bs
--   words_in line       all the words
--   is_digit b          whether a byte is a decimal digit
--   all_digits bs       whether each byte is one
--   value_after n bs    the number that digits write after those of the number n
--   number_in word      the number that decimal digits write, below 2 ^ 64
--   hex_value b         the value of a lower-case hexadecimal digit
--   pair_value h l      the byte of two such values
--   with_first o ns     numbers with one more in front, if all were read
--   pairs_in word       the bytes that pairs of such digits write
--   bytes_in word       the same for one pair at least; no bytes for `-`
--   decimal_by k n      the last k decimal digits of n, or all where there are fewer
--   decimal n           the decimal digits of n, without leading zeros
--   hex_digit d         the lower-case hexadecimal digit of a value below 16
--   hex_pairs bytes     two such digits for each byte
--   hex_text bytes      the same, and `-` for no bytes
use Rattle.std.specs.Prelude.{ℕ, zero, suc, ◌+◌, ◌-◌, ◌*◌, ◌/◌, ◌%◌, ◌^◌, Bool, true, cond, not, ◌&&◌, List, [], ◌∷◌, ◌++◌, length, take, drop, Some, None, Option, ◌==◌, nat_eq, nat_le, nat_lt}
use Rattle.std.specs.List.{prefix_len}

-- how many bytes stand before the first byte stop
abbrev pub before : ℕ → List ℕ → ℕ
before stop bytes = prefix_len (λ b. not (b == stop)) bytes

abbrev pub line_of : List ℕ → List ℕ
line_of text = take (before 10 text) text

abbrev pub after_line : List ℕ → List ℕ
after_line text = drop (before 10 text + 1) text

-- a byte put in front of the first line
abbrev pub on_first : ℕ → List (List ℕ) → List (List ℕ)
on_first b [] = (b ∷ []) ∷ []
on_first b (l ∷ ls) = (b ∷ l) ∷ ls

abbrev pub lines_in : List ℕ → List (List ℕ)
lines_in [] = []
lines_in (b ∷ bs) = cond (b == 10) ([] ∷ lines_in bs) (on_first b (lines_in bs))

-- the line from its first word on
abbrev pub from_word : List ℕ → List ℕ
from_word line = drop (prefix_len (λ b. nat_eq b 32) line) line

abbrev pub word_of : List ℕ → List ℕ
word_of line = take (before 32 (from_word line)) (from_word line)

abbrev pub after_word : List ℕ → List ℕ
after_word line = drop (before 32 (from_word line)) (from_word line)

-- a byte other than 32 put in front of a line, whose words are given: a word of its own, or more of the first
abbrev pub on_word : ℕ → List ℕ → List (List ℕ) → List (List ℕ)
on_word b [] ws = (b ∷ []) ∷ ws
on_word b (c ∷ cs) ws = cond (c == 32) ((b ∷ []) ∷ ws) (on_first b ws)

abbrev pub words_in : List ℕ → List (List ℕ)
words_in [] = []
words_in (b ∷ bs) = cond (b == 32) (words_in bs) (on_word b bs (words_in bs))

abbrev pub is_digit : ℕ → Bool
is_digit b = nat_le 48 b && nat_le b 57

abbrev pub all_digits : List ℕ → Bool
all_digits [] = true
all_digits (b ∷ bs) = is_digit b && all_digits bs

-- the number that digits write, after the number n of the digits before them
abbrev pub value_after : ℕ → List ℕ → ℕ
value_after n [] = n
value_after n (b ∷ bs) = value_after (n * 10 + (b - 48)) bs

abbrev pub number_in : List ℕ → Option ℕ
number_in word = cond (nat_lt 0 (length word) && (all_digits word && nat_lt (value_after 0 word) (2 ^ 64))) (Some (value_after 0 word)) None

abbrev pub hex_value : ℕ → Option ℕ
hex_value b = cond (is_digit b) (Some (b - 48)) (cond (nat_le 97 b && nat_le b 102) (Some (b - 87)) None)

-- the byte of two digits
abbrev pub pair_value : Option ℕ → Option ℕ → Option ℕ
pair_value (Some h) (Some l) = Some (h * 16 + l)
pair_value (Some h) None = None
pair_value None p = None

-- a number in front of others
abbrev pub with_first : Option ℕ → Option (List ℕ) → Option (List ℕ)
with_first (Some b) (Some bs) = Some (b ∷ bs)
with_first (Some b) None = None
with_first None o = None

abbrev pub pairs_in : List ℕ → Option (List ℕ)
pairs_in [] = Some []
pairs_in (a ∷ []) = None
pairs_in (a ∷ b ∷ bs) = with_first (pair_value (hex_value a) (hex_value b)) (pairs_in bs)

abbrev pub bytes_in : List ℕ → Option (List ℕ)
bytes_in [] = None
bytes_in (a ∷ []) = cond (a == 45) (Some []) None
bytes_in (a ∷ b ∷ bs) = pairs_in (a ∷ b ∷ bs)

-- at most k digits of n
abbrev pub decimal_by : ℕ → ℕ → List ℕ
decimal_by zero n = []
decimal_by (suc k) n = cond (nat_lt n 10) ((48 + n) ∷ []) (decimal_by k (n / 10) ++ ((48 + n % 10) ∷ []))

unfoldable pub decimal : ℕ → List ℕ
decimal n = decimal_by (suc n) n

abbrev pub hex_digit : ℕ → ℕ
hex_digit d = cond (nat_lt d 10) (48 + d) (87 + d)

abbrev pub hex_pairs : List ℕ → List ℕ
hex_pairs [] = []
hex_pairs (b ∷ bs) = hex_digit (b / 16) ∷ hex_digit (b % 16) ∷ hex_pairs bs

abbrev pub hex_text : List ℕ → List ℕ
hex_text [] = 45 ∷ []
hex_text (b ∷ bs) = hex_pairs (b ∷ bs)
