-- Octets by name (RFC 20).
use Rattle.std.specs.Prelude.{ℕ}

-- the end of a line
abbrev pub newline : ℕ
newline = 10

-- ` `
abbrev pub space : ℕ
space = 32

-- `#`
abbrev pub hash : ℕ
hash = 35

-- `-`
abbrev pub dash : ℕ
dash = 45

-- `.`
abbrev pub dot : ℕ
dot = 46

-- `/`
abbrev pub slash : ℕ
slash = 47

-- `0`
abbrev pub zero_digit : ℕ
zero_digit = 48

-- `:`
abbrev pub colon : ℕ
colon = 58

-- `=`
abbrev pub equals : ℕ
equals = 61

-- `_`
abbrev pub underscore : ℕ
underscore = 95

-- `a`
abbrev pub letter_a : ℕ
letter_a = 97

-- `b`
abbrev pub letter_b : ℕ
letter_b = 98
