-- Keys as words of 64 bits, so that a word of 0 is no key's. The spelling is this project's own.
use Rattle.std.specs.Prelude.{ℕ, ◌+◌, ◌-◌, ◌*◌, ◌/◌, ◌%◌, ◌^◌, ◌==◌, ◌||◌, nat_lt, ℤ, pos, ◌+ℤ◌, ◌-ℤ◌, unsigned_abs, if◌then◌else◌, Option, Some, None}
use Rattle.voxel_block.specs.declared.key.BlockKey.{BlockKey}

-- a coordinate counted from -32768 on
abbrev pub shifted_of : ℤ → ℕ
shifted_of a = unsigned_abs (a +ℤ pos 32768)

-- the word of a key: the shifted coordinates one after the other, 16 bits each, plus 1
abbrev pub word_of : BlockKey → ℕ
word_of k = 1 + shifted_of k.x * 2 ^ 32 + shifted_of k.y * 2 ^ 16 + shifted_of k.z

-- the key whose shifted coordinates these are
abbrev pub key_with : ℕ → ℕ → ℕ → BlockKey
key_with x y z = record { x = pos x -ℤ pos 32768; y = pos y -ℤ pos 32768; z = pos z -ℤ pos 32768 }

-- the key of a word, nothing for 0 and above 2^48
abbrev pub key_of : ℕ → Option BlockKey
key_of w = if w == 0 || nat_lt (2 ^ 48) w then None else Some (key_with ((w - 1) / 2 ^ 32) ((w - 1) / 2 ^ 16 % 2 ^ 16) ((w - 1) % 2 ^ 16))
