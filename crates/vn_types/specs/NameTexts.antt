-- The octets of a name, wherever they stand.
use Rattle.std.specs.Prelude.{ℕ, List}
use Rattle.vn_types.specs.declared.name.NameText.{NameText}
use Rattle.vn_types.specs.declared.name.NameText.TheVariants.{Read, Fixed}

-- what was read, or what the program has
abbrev pub octets_of : NameText → List ℕ
octets_of (Read text) = text
octets_of (Fixed text) = text.now
