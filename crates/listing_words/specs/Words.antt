-- The words of listings, reports and tables, each as its bytes. The comment above a definition has the word. A word that comes before a
-- number ends in a space.
use Rattle.std.specs.Prelude.{ℕ, List, [], ◌∷◌, ◌++◌}

-- a space
abbrev pub space : List ℕ
space = 32 ∷ []

-- the line feed that ends a line
abbrev pub line_feed : List ℕ
line_feed = 10 ∷ []

-- ---- document 01, "strip": the words of a listing

-- "STRIP "
abbrev pub strip_word : List ℕ
strip_word = 83 ∷ 84 ∷ 82 ∷ 73 ∷ 80 ∷ 32 ∷ []

-- "ARRIVED "
abbrev pub arrived_word : List ℕ
arrived_word = 65 ∷ 82 ∷ 82 ∷ 73 ∷ 86 ∷ 69 ∷ 68 ∷ 32 ∷ []

-- "REFUSED "
abbrev pub refused_word : List ℕ
refused_word = 82 ∷ 69 ∷ 70 ∷ 85 ∷ 83 ∷ 69 ∷ 68 ∷ 32 ∷ []

-- ---- document 02, R-1: the words of a report on two listings

-- "SAME "
abbrev pub same_word : List ℕ
same_word = 83 ∷ 65 ∷ 77 ∷ 69 ∷ 32 ∷ []

-- "ONLY "
abbrev pub only_word : List ℕ
only_word = 79 ∷ 78 ∷ 76 ∷ 89 ∷ 32 ∷ []

-- "DIFF "
abbrev pub diff_word : List ℕ
diff_word = 68 ∷ 73 ∷ 70 ∷ 70 ∷ 32 ∷ []

-- "HEADER "
abbrev pub header_word : List ℕ
header_word = 72 ∷ 69 ∷ 65 ∷ 68 ∷ 69 ∷ 82 ∷ 32 ∷ []

-- "OUTCOME "
abbrev pub outcome_word : List ℕ
outcome_word = 79 ∷ 85 ∷ 84 ∷ 67 ∷ 79 ∷ 77 ∷ 69 ∷ 32 ∷ []

-- "REFUSED 13 "
abbrev pub refused13 : List ℕ
refused13 = refused_word ++ 49 ∷ 51 ∷ 32 ∷ []

-- " | "
abbrev pub bar : List ℕ
bar = 32 ∷ 124 ∷ 32 ∷ []

-- "-"
abbrev pub dash : List ℕ
dash = 45 ∷ []

-- ---- the names of a state's components

-- "x"
abbrev pub x_name : List ℕ
x_name = 120 ∷ []

-- "y"
abbrev pub y_name : List ℕ
y_name = 121 ∷ []

-- "z"
abbrev pub z_name : List ℕ
z_name = 122 ∷ []

-- "vx"
abbrev pub vx_name : List ℕ
vx_name = 118 ∷ 120 ∷ []

-- "vy"
abbrev pub vy_name : List ℕ
vy_name = 118 ∷ 121 ∷ []

-- "vz"
abbrev pub vz_name : List ℕ
vz_name = 118 ∷ 122 ∷ []

-- ---- document 02, R-13: the words of a table

-- "time"
abbrev pub time_name : List ℕ
time_name = 116 ∷ 105 ∷ 109 ∷ 101 ∷ []

-- ","
abbrev pub comma : List ℕ
comma = 44 ∷ []

-- the end of a row: RFC 4180's carriage return and line feed
abbrev pub end_of_row : List ℕ
end_of_row = 13 ∷ 10 ∷ []
