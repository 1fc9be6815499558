-- The definitions, computed on worked numbers and names.
use Rattle.std.specs.Prelude.{◌≡◌, pos, negsuc, [], ◌∷◌, None, Some, codes}
use Rattle.std.proofs.Common.{refl}
use Rattle.std.specs.Fmt.{digits}
use Rattle.std.specs.Str.{is_utf8, chars}
use lib.Utf8.{encode}
use Rattle.sheet_parts.specs.Fill.{filled}
use Rattle.sheet_parts.specs.Decimals.{digits_text, decimals_text}
use Rattle.sheet_parts.specs.Clock.{clock_text, seconds_up, seconds_down}
use Rattle.sheet_parts.specs.Energy.{kilowatt_hours_up, kilowatt_hours_down, kilojoules_down, saving_of}
use Rattle.sheet_parts.specs.Names.{shown_name, clipped, escaped}

decimals-of_a_place : decimals_text 3 (pos 1724) ≡ codes "1.724"
unfolding digits filled digits_text decimals_text
decimals-of_a_place = refl

decimals-below_0 : decimals_text 2 (negsuc 4) ≡ codes "-0.05"
unfolding digits filled digits_text decimals_text
decimals-below_0 = refl

clock-of_minutes : clock_text (pos 330) ≡ codes "00:05:30"
unfolding digits filled digits_text clock_text
clock-of_minutes = refl

clock-below_0 : clock_text (negsuc 3660) ≡ codes "-01:01:01"
unfolding digits filled digits_text clock_text
clock-below_0 = refl

clock-of_many_hours : clock_text (pos 360059) ≡ codes "100:00:59"
unfolding digits filled digits_text clock_text
clock-of_many_hours = refl

seconds_up-of_1 : seconds_up (pos 1) ≡ pos 1
seconds_up-of_1 = refl

seconds_up-below_0 : seconds_up (negsuc 1000) ≡ negsuc 0
seconds_up-below_0 = refl

seconds_down-below_0 : seconds_down (negsuc 0) ≡ negsuc 0
seconds_down-below_0 = refl

seconds_down-of_1999 : seconds_down (pos 1999) ≡ pos 1
seconds_down-of_1999 = refl

kilowatt_hours-of_a_step : kilowatt_hours_up (pos 6600000000000) ≡ pos 92
kilowatt_hours-of_a_step = refl

kilowatt_hours-of_a_bound : kilowatt_hours_down (pos 6600000000000) ≡ pos 91
kilowatt_hours-of_a_bound = refl

kilojoules-below_0 : kilojoules_down (negsuc 0) ≡ negsuc 0
kilojoules-below_0 = refl

saving-of_a_third : saving_of (pos 300) (pos 200) ≡ Some (pos 3334)
saving-of_a_third = refl

saving-of_nothing : saving_of (pos 0) (negsuc 0) ≡ None
saving-of_nothing = refl

name-with_a_tab : shown_name (65 ∷ 9 ∷ 66 ∷ 127 ∷ []) ≡ codes "A B "
unfolding shown_name
name-with_a_tab = refl

-- a letter with an umlaut, and a control character of two bytes
name-in_utf8 : shown_name (195 ∷ 164 ∷ 194 ∷ 155 ∷ []) ≡ 195 ∷ 164 ∷ 194 ∷ 160 ∷ []
unfolding is_utf8 chars encode shown_name
name-in_utf8 = refl

-- U+FFFF behind a letter, and U+FFFD for it
name-with_no_character : shown_name (65 ∷ 239 ∷ 191 ∷ 191 ∷ []) ≡ 65 ∷ 239 ∷ 191 ∷ 189 ∷ []
unfolding is_utf8 chars encode shown_name
name-with_no_character = refl

-- a letter that isn't UTF-8
name-in_other_bytes : shown_name (65 ∷ 228 ∷ 66 ∷ []) ≡ codes "A?B"
unfolding is_utf8 chars encode shown_name
name-in_other_bytes = refl

clipped-behind_two : clipped 2 (65 ∷ 195 ∷ 164 ∷ 66 ∷ []) ≡ 65 ∷ 195 ∷ 164 ∷ codes "..."
unfolding clipped
clipped-behind_two = refl

clipped-not : clipped 3 (65 ∷ 195 ∷ 164 ∷ 66 ∷ []) ≡ 65 ∷ 195 ∷ 164 ∷ 66 ∷ []
unfolding clipped
clipped-not = refl

escaped-of_both : escaped (codes "A&B<") ≡ codes "A&amp;B&lt;"
escaped-of_both = refl
