-- Which bits of a setting's tables may be set, byte by byte: the way in which the code looks at them. Inside: no public contract cites it.
use Rattle.std.specs.Prelude.{ℕ, ◌-◌, ◌*◌, ◌%◌, ◌^◌, ◌<◌, min, true, false, List, nat_le, slice_index}

-- how many low bits of byte j of a setting's tables may be set, where there are n settings and m posts
unfoldable pub live : ℕ → ℕ → ℕ → ℕ
live n m j = elim (nat_le (32 * m) j) [ true ↦ 0 | false ↦ min 8 (2 ^ n - 8 * (j % 16)) ]

-- the 256 table bytes of a setting have no other bit
unfoldable pub Clean : ℕ → ℕ → List ℕ → Type 0
Clean n m bytes = (j : ℕ) → j < 256 → slice_index bytes j < 2 ^ live n m j
