-- What a map ends as, where a `&mut` to one of its values is returned.
use Rattle.std.specs.Prelude.{Option, List}
use Rattle.std.specs.Borrow.{LendsIf, Fml, RattleType, MutBor}
use Rattle.std.specs.declared.cmp.Ordering.{Ordering}
use Rattle.std.specs.Map.{set_value}
use Rattle.std.specs.BTreeMap.{is_at}
use Rattle.std.specs.BTreeMap.Lent.{OrdMembers}
use Rattle.nn_sorted.specs.contracts.map.SortedMap.{the_row}

-- once the borrow r ends, the key that the query finds has the last value written through r; at `None` the map stays as it is
abbrev pub lends_get : (K V : RattleType) (o : OrdMembers K.Denot) → MutBor (List (K.Denot × V.Denot)) → (K.Denot → Ordering) → Option (MutBor V.Denot) → Fml
lends_get K V o s compare r = LendsIf (the_row K V (record { cmp = o.cmp }) (record { eq = o.eq }) (record { partial_cmp = o.partial_cmp })) V s r (set_value (is_at compare) s.now) s.now
