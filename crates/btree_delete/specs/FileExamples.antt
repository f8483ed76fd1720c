-- Files by example, of order 1: the records x, y and z at the keys a, b and c.
use Rattle.std.specs.Prelude.{ℕ, List, [], ◌∷◌}
use Rattle.btree_node.specs.declared.header.Header.{Header}
use Rattle.btree_node.specs.HeaderSpelling.{header_spelling, clean_state, writing_state}
use Rattle.btree_node.specs.Layout.{second_version, layout_of}
use Rattle.btree_node.specs.Spelling.{spelling_in}
use Rattle.btree_insert.specs.Examples.{ax, by, cz}
use Rattle.btree_insert.specs.Inserted.{leaf_of, root_of}

-- four pages, of which page 3 is the root, in a file of that version
abbrev pub three_header : ℕ → Header
three_header version = record { version = version; order = 1; pages = 4; root = 3; count = 3 }

-- the leaves a and c, and the root b, as pages of that version
abbrev pub three_nodes : ℕ → List (List ℕ)
three_nodes version =
    spelling_in (layout_of version) (leaf_of ax) 1 ∷ spelling_in (layout_of version) (leaf_of cz) 1 ∷ spelling_in (layout_of version) (root_of 1 by 2) 1 ∷ []

-- the header of one version before the pages of another
abbrev pub three_records : ℕ → ℕ → List (List ℕ)
three_records version pages = header_spelling (three_header version) clean_state ∷ three_nodes pages

-- the file of the second version, while it is written
abbrev pub unclean_records : List (List ℕ)
unclean_records = header_spelling (three_header second_version) writing_state ∷ three_nodes second_version

-- the same without the root
abbrev pub underfull_records : List (List ℕ)
underfull_records = header_spelling (three_header second_version) clean_state ∷ spelling_in (layout_of second_version) (leaf_of ax) 1 ∷ spelling_in (layout_of second_version) (leaf_of cz) 1 ∷ []
