-- The three texts of a sample. Each line ends with a line feed, fields are parted by commas, and numbers are in their shortest decimal
-- spelling.
use Rattle.std.specs.Prelude.{ℕ, ℤ, ◌+◌, ◌*◌, ◌++◌, ◌∷◌, List, codes, pos}
use Rattle.std.specs.Fmt.{decimal, signed_decimal}
use Rattle.std.specs.List.{flat_map, range_with_len}
use Rattle.rail_base.specs.Texts.{line}
use Rattle.sample_lines.specs.Draws.{gradient, limit, sections}

-- the line of a row of this kind and value: of section b, which is the metres from 1000 b to 1000 (b + 1)
unfoldable pub row_line : List ℕ → ℕ → ℤ → List ℕ
row_line kind b value = line (kind ++ 44 ∷ decimal (1000 * b) ++ 44 ∷ decimal (1000 * (b + 1)) ++ 44 ∷ signed_decimal value)

-- the line of the limit of section b
abbrev pub limit_line : ℕ → ℕ → List ℕ
limit_line n b = row_line (codes "limit") b (pos (limit n b))

-- the line of the gradient of section b
abbrev pub gradient_line : ℕ → ℕ → List ℕ
gradient_line n b = row_line (codes "gradient") b (gradient n b)

-- the lines of the limits of the first k sections
unfoldable pub limit_lines : ℕ → ℕ → List ℕ
limit_lines n k = flat_map (limit_line n) (range_with_len 0 k)

-- the lines of the gradients of the first k sections
unfoldable pub gradient_lines : ℕ → ℕ → List ℕ
gradient_lines n k = flat_map (gradient_line n) (range_with_len 0 k)

-- the header of a line file
abbrev pub line_header : List ℕ
line_header = line (codes "kind,from,to,value")

-- the line of sample n: a header, the limits of all sections, and then their gradients
abbrev pub line_text : ℕ → List ℕ
line_text n = line_header ++ limit_lines n sections ++ gradient_lines n sections

-- the train of every sample
abbrev pub train_text : List ℕ
train_text =
    line (codes "mass = 4000")
    ++ line (codes "inertia = 4200")
    ++ line (codes "a = 4000")
    ++ line (codes "b = 30")
    ++ line (codes "c = 800")
    ++ line (codes "traction = [[0, 250000], [1500, 250000], [4000, 100000]]")
    ++ line (codes "brake = [[0, 300000], [4000, 300000]]")

-- the service of every sample
abbrev pub service_text : List ℕ
service_text =
    line (codes "place,name,dwell,latest")
    ++ line (codes "0,S0,,")
    ++ line (codes "10000,S1,30,")
    ++ line (codes "20000,S2,30,")
    ++ line (codes "30000,S3,30,")
    ++ line (codes "40000,S4,,3600")
