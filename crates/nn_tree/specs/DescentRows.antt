-- Walks in a small tree: /, /a, /a/f and /b, where f is a file.
use Rattle.std.specs.Prelude.{◌≡◌, true, List, [], ◌∷◌, codes, refl}
use Rattle.std.proofs.Common.{inl, inr}
use Rattle.nn_model.specs.declared.form.Form.{Form}
use Rattle.nn_model.specs.declared.form.Form.TheVariants.{Dir, File}
use Rattle.nn_model.specs.Namespace.{Path}
use Rattle.nn_tree.specs.Descent.{Reaches, IsRefusedAt}

abbrev f : Form
f = File (record { replication = 3; closed = true; blocks = [] })

-- the directory a alone
abbrev a : List (Path × Form)
a = ([], Dir) ∷ (codes "f" ∷ [], f) ∷ []

abbrev whole : List (Path × Form)
whole = ([], Dir) ∷ (codes "a" ∷ [], Dir) ∷ (codes "a" ∷ codes "f" ∷ [], f) ∷ (codes "b" ∷ [], Dir) ∷ []

-- the walk to /a/f comes to a, before the name f
to_parent : Reaches whole (codes "a" ∷ codes "f" ∷ []) (codes "a" ∷ []) (codes "f" ∷ []) a
to_parent = record { path = refl; walked = refl; stands = λ q. refl }

-- nothing stands at /c
not_there : IsRefusedAt whole (codes "c" ∷ []) (λ rest t. ⊥)
not_there = inl (λ q. refl)

-- the walk to /a/f/x comes to the file, and stops there
in_a_file : IsRefusedAt whole (codes "a" ∷ codes "f" ∷ codes "x" ∷ []) (λ rest t. (rest ≡ codes "x" ∷ []) × (t ≡ ([], f) ∷ []))
in_a_file = inr (codes "a" ∷ codes "f" ∷ [], codes "x" ∷ [], ([], f) ∷ [], record { path = refl; walked = refl; stands = λ q. refl }, (refl, refl))
