-- What is known of a file where the first fault of a list is none.
use Rattle.std.proofs.Common.{◌≡◌, ℕ, Bool, true, false, cond, List, [], ◌∷◌, ◌++◌, length, Option, None, Some, refl}
use Rattle.std.specs.List.{AllByRecursion}
use Rattle.elf_image.specs.declared.error.ElfError.{ElfError}
use Rattle.elf_image.specs.File.{program_headers, segment_headers}
use Rattle.elf_image.specs.Faults.{is_too_short, has_bad_magic, has_bad_class, has_bad_type, has_bad_machine, has_bad_flags, has_bad_header_table, is_not_static, has_out_of_file, has_out_of_place, has_overlap, has_write_and_execute, holds, first_of, header_faults, place_faults}

-- a search that found nothing did not pass at its first place
pub not_told : {X : Type 0} (b : Bool) (x : X) (rest : Option X) → None ≡ cond b (Some x) rest → (b ≡ false) × (None ≡ rest)
not_told true x rest e = absurd cc
not_told false x rest e = (refl, e)

-- no fault of the header
pub record HasHeader (file : List ℕ) : Type 0 where
  pub short : is_too_short file ≡ false
  pub magic : has_bad_magic file ≡ false
  pub class : has_bad_class file ≡ false
  pub executable : has_bad_type file ≡ false
  pub machine : has_bad_machine file ≡ false
  pub flags : has_bad_flags file ≡ false
  pub table : has_bad_header_table file ≡ false

-- no fault of the segments but for their size
pub record HasPlaces (file : List ℕ) : Type 0 where
  pub static : is_not_static (program_headers file) ≡ false
  pub inside : has_out_of_file (length file) (program_headers file) ≡ false
  pub place : has_out_of_place (segment_headers file) ≡ false
  pub apart : has_overlap (segment_headers file) ≡ false
  pub exclusive : has_write_and_execute (segment_headers file) ≡ false

-- none of the first faults of such a list holds
none_holds : (faults others : List ElfError) (file : List ℕ) → None ≡ first_of (faults ++ others) file → AllByRecursion (λ fault. holds fault file ≡ false) faults × (None ≡ first_of others file)
none_holds [] others file e = (tt, e)
none_holds (fault ∷ faults) others file e =
    let first = not_told _ _ _ e in
    let rest = none_holds faults others file first.1 in
    ((first.0, rest.0), rest.1)

pub has_header : (file : List ℕ) (others : List ElfError) → None ≡ first_of (header_faults ++ others) file → HasHeader file × (None ≡ first_of others file)
has_header file others e =
    let none = none_holds header_faults others file e in
    let each = none.0 in
    let header : HasHeader file = record {
      short = each.0;
      magic = each.1.0;
      class = each.1.1.0;
      executable = each.1.1.1.0;
      machine = each.1.1.1.1.0;
      flags = each.1.1.1.1.1.0;
      table = each.1.1.1.1.1.1.0;
    } in
    (header, none.1)

pub has_places : (file : List ℕ) (others : List ElfError) → None ≡ first_of (place_faults ++ others) file → HasPlaces file × (None ≡ first_of others file)
has_places file others e =
    let none = none_holds place_faults others file e in
    let each = none.0 in
    let places : HasPlaces file = record { static = each.0; inside = each.1.0; place = each.1.1.0; apart = each.1.1.1.0; exclusive = each.1.1.1.1.0 } in
    (places, none.1)
