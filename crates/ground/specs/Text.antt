-- Quoted text as the bytes that a program reads: `bytes "a&b"` is the list that `b"a&b"` is in code (for characters below 128).
use Rattle.std.specs.Prelude.{List, [], ◌∷◌, ℕ}
use Prim.Native.Char.{Char, code}
use Prim.Native.String.{String, [] as nil, ◌∷◌ as cons}

-- the byte of one character
abbrev pub byte : Char → ℕ
byte c = code c

abbrev pub bytes : String → List ℕ
bytes nil = []
bytes (cons c s) = byte c ∷ bytes s
