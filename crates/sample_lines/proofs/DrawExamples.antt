-- The first draws of the first sample, and what they give.
use Rattle.std.proofs.Common.{◌≡◌, pos, negsuc, refl}
use Rattle.sample_lines.specs.Draws.{draw, gradient, limit, state}

none_drawn : draw 1 0 ≡ 0
unfolding state
none_drawn = refl

first : draw 1 1 ≡ 16838
unfolding state
first = refl

second : draw 1 2 ≡ 5758
unfolding state
second = refl

third : draw 1 3 ≡ 10113
unfolding state
third = refl

fourth : draw 1 4 ≡ 17515
unfolding state
fourth = refl

first_limit : limit 1 0 ≡ 117
unfolding state
first_limit = refl

second_limit : limit 1 1 ≡ 63
unfolding state
second_limit = refl

first_gradient : gradient 1 0 ≡ pos 22
unfolding state
first_gradient = refl

second_gradient : gradient 1 1 ≡ negsuc 36
unfolding state
second_gradient = refl
