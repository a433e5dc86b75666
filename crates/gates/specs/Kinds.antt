-- The kinds of nets, by their numbers in document 01's table of "The image".
use Rattle.std.specs.Prelude.{◌≡◌, ◌<◌, ℕ, Result, MatchResult}
use Rattle.gates.specs.declared.kinds.Kind.{Kind}
use Rattle.gates.specs.declared.kinds.Kind.TheVariants as kinds
use Rattle.gates.specs.declared.kinds.UnknownKind.{UnknownKind}

abbrev pub CONST : ℕ
CONST = 0

abbrev pub INPUT : ℕ
INPUT = 1

abbrev pub REG : ℕ
REG = 2

abbrev pub NOT : ℕ
NOT = 3

abbrev pub AND : ℕ
AND = 4

abbrev pub OR : ℕ
OR = 5

abbrev pub XOR : ℕ
XOR = 6

abbrev pub MUX : ℕ
MUX = 7

abbrev pub OUT : ℕ
OUT = 8

-- the number of a kind, as the code has it (`Kind` is the enum of src/kinds.rt)
abbrev pub number_of : Kind → ℕ
number_of kinds.Const = CONST
number_of kinds.Input = INPUT
number_of kinds.Reg = REG
number_of kinds.Not = NOT
number_of kinds.And = AND
number_of kinds.Or = OR
number_of kinds.Xor = XOR
number_of kinds.Mux = MUX
number_of kinds.Out = OUT

-- what a byte decodes to: the kind whose number it is, or, above 8, the byte back
abbrev pub Decodes : ℕ → Result Kind UnknownKind → Type 0
Decodes byte r = MatchResult r (λ k. number_of k ≡ byte) (λ e. (e.0 ≡ byte) × (OUT < byte))
