-- A lemma on the parameters of a certificate.
use Rattle.std.proofs.Common.{◌≡◌, true, List, [], ◌∷◌, refl}
use Rattle.std.specs.List.{list_all, AllByRecursion}
use Rattle.region_mem.specs.Parameter.{is_valid}
use Rattle.cert_note.specs.Words.{Param}
use Rattle.cert_note.specs.Certificate.{IsParameter}

pub valid_all : (params : List Param) → AllByRecursion IsParameter params → list_all is_valid params ≡ true
valid_all [] is = refl
valid_all (p ∷ params) is = rw is.0.0 (valid_all params is.1)
