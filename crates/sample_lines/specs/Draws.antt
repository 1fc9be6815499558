-- The numbers of a sample: a linear congruential generator that begins with the sample's number, and the draws of each section.
use Rattle.std.specs.Prelude.{ℕ, ℤ, zero, suc, ◌+◌, ◌*◌, ◌/◌, ◌%◌, ◌^◌, pos, ◌-ℤ◌}

-- the state after a state
abbrev pub next_state : ℕ → ℕ
next_state x = (1103515245 * x + 12345) % 2 ^ 31

-- state k of the generator that begins with n
unfoldable pub state : ℕ → ℕ → ℕ
state n zero = n % 2 ^ 31
state n (suc k) = next_state (state n k)

-- the number that is drawn in a state: its upper bits
abbrev pub drawn : ℕ → ℕ
drawn x = x / 65536

-- draw k of a sample
abbrev pub draw : ℕ → ℕ → ℕ
draw n k = drawn (state n k)

-- how many sections a sample has of each kind
abbrev pub sections : ℕ
sections = 40

-- each section has two draws: the first is for its gradient, the second for its limit

-- the limit of section b, km/h: one of the nine 54, 63, .., 126
abbrev pub limit : ℕ → ℕ → ℕ
limit n b = 54 + 9 * (draw n (2 * b + 2) % 9)

-- the gradient of section b, tenths of a per mille: -50 to 50
abbrev pub gradient : ℕ → ℕ → ℤ
gradient n b = pos (draw n (2 * b + 1) % 101) -ℤ pos 50
