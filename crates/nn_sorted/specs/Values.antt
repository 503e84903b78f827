-- The value at a key.
use Rattle.std.specs.Prelude.{◌≡◌, cond, List, [], ◌∷◌, Option}
use Rattle.std.specs.Ordering.{is_gt}
use Rattle.std.specs.declared.cmp.Ordering.{Ordering}
use Rattle.std.specs.Map.{lookup}
use Rattle.std.specs.BTreeMap.{is_at}

-- the value of the entry to whose key a query compares as equal, where it compares to each key by `compare`
abbrev pub value_by : {K V : Type 0} → (K → Ordering) → List (K × V) → Option V
value_by compare es = lookup (is_at compare) es

-- the value of the entry whose key is equal to k
abbrev pub value_at : {K V : Type 0} → (K → K → Ordering) → List (K × V) → K → Option V
value_at cmp es k = value_by (cmp k) es

-- the entries that are not below a query
abbrev pub entries_from : {K V : Type 0} → (K → Ordering) → List (K × V) → List (K × V)
entries_from compare [] = []
entries_from compare (e ∷ es) = cond (is_gt (compare e.0)) (entries_from compare es) (e ∷ es)

-- the first entry's value, which was `before`, is `value` now
abbrev pub ReplacesFirst : {K V : Type 0} → List (K × V) → V → V → List (K × V) → Type 0
ReplacesFirst {K} {V} old before value new = (k : K) × (rest : List (K × V)) × (old ≡ (k, before) ∷ rest) × (new ≡ (k, value) ∷ rest)
