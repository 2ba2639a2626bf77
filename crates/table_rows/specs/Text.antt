-- Document 02, R-13: "comma-separated rows (RFC 4180): the heading row time,x,y,z,vx,vy,vz, then a row a state".
use Rattle.std.specs.Prelude.{ℕ, Bool, true, List, ◌++◌}
use Rattle.std.specs.Float.{binary64}
use Rattle.std.specs.Float.Ieee.{of_bits}
use Rattle.base.specs.Choice.{if◌then◌otherwise◌}
use Rattle.listing_words.specs.Words.{x_name, y_name, z_name, vx_name, vy_name, vz_name, time_name, comma, end_of_row}
use Rattle.listing_scan.specs.declared.Row.{Row}
use Rattle.text_decimal.specs.declared.Places.{Places}
use Rattle.text_decimal.specs.declared.Places.TheVariants.{Three, Six}
use Rattle.text_decimal.specs.Numeral.{numeral, is_large}
use Rattle.text_time.specs.Stamp.{stamp_text}

-- time,x,y,z,vx,vy,vz
abbrev pub heading : List ℕ
heading =
    time_name ++ comma ++ x_name ++ comma ++ y_name ++ comma ++ z_name
    ++ comma ++ vx_name ++ comma ++ vy_name ++ comma ++ vz_name ++ end_of_row

-- a number after a comma
unfoldable pub field : Places → ℕ → List ℕ
field places bits = comma ++ numeral places (of_bits binary64 bits)

unfoldable pub fields : Places → ℕ → ℕ → ℕ → List ℕ
fields places a b c = field places a ++ field places b ++ field places c

-- "moment .. and position and velocity in decimal with three and six places"
unfoldable pub row_text : Row → List ℕ
row_text r = stamp_text r.moment ++ fields Three r.x r.y r.z ++ fields Six r.vx r.vy r.vz ++ end_of_row

abbrev pub large : ℕ → Bool
large bits = is_large (of_bits binary64 bits)

-- "a magnitude of 10^12 or more", of any component
abbrev pub any_large : ℕ → ℕ → ℕ → Bool
any_large a b c = if large a then true otherwise if large b then true otherwise large c

unfoldable pub has_large : Row → Bool
has_large r = if any_large r.x r.y r.z then true otherwise any_large r.vx r.vy r.vz
