-- What a test of an `Option` tells of it.
use Rattle.std.proofs.Common.{◌≡◌, true, false, None, Some, Option, refl}
use Rattle.std.specs.Prelude.{is_none, is_some}

pub none_if : {A : Type 0} (o : Option A) → true ≡ is_none o → o ≡ None
none_if None e = refl
none_if (Some x) e = absurd (cc)

pub some_unless : {A : Type 0} (o : Option A) → false ≡ is_none o → (x : A) × (o ≡ Some x)
some_unless None e = absurd (cc)
some_unless (Some x) e = (x, refl)

pub some_if : {A : Type 0} (o : Option A) → true ≡ is_some o → (x : A) × (o ≡ Some x)
some_if None e = absurd (cc)
some_if (Some x) e = (x, refl)

pub none_unless : {A : Type 0} (o : Option A) → false ≡ is_some o → o ≡ None
none_unless None e = refl
none_unless (Some x) e = absurd (cc)
