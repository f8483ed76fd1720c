-- Records in each form by example.
use Rattle.std.specs.Prelude.{ℕ, List, [], ◌∷◌, ◌++◌, codes}

-- apple with dark red
abbrev pub red_apple : List ℕ × List ℕ
red_apple = (codes "apple", codes "dark red")

-- a tab with a quotation mark
abbrev pub tab_and_mark : List ℕ × List ℕ
tab_and_mark = (9 ∷ [], 34 ∷ [])

abbrev pub tsv_of_both : List ℕ
tsv_of_both = codes "apple\tdark red\n\\t\t\"\n"

abbrev pub csv_of_both : List ℕ
csv_of_both = codes "\"apple\",\"dark red\"\n\"\t\",\"\"\"\"\n"

abbrev pub json_of_both : List ℕ
json_of_both = codes "{\"key\":\"apple\",\"record\":\"dark red\"}\n{\"key\":\"\\u0009\",\"record\":\"\\\"\"}\n"

-- a line in which the tab stands for itself
abbrev pub raw_tab : List ℕ
raw_tab = 9 ∷ 9 ∷ 34 ∷ 10 ∷ []
