-- What is known of a file to which a certificate is attached.
use Rattle.std.proofs.Common.{◌≡◌, ℕ, ◌<◌, ◌≤◌, Bool, true, false, ◌||◌, ltb, leb, Option, Some, None, refl, sym, List, [], ◌++◌, length}
use Rattle.std.specs.Option.{option_or}
use Rattle.std.proofs.lemmas.Bool.{ltb-false, leb-false, eqb-true, not-false}
use Rattle.elf_image.specs.declared.error.ElfError.{ElfError}
use Rattle.elf_image.specs.declared.error.ElfError.TheVariants.{TooLarge}
use Rattle.elf_image.specs.declared.header.TheConstants.{MAX_PROGRAM_HEADERS}
use Rattle.elf_image.specs.declared.layout.TheConstants.{MAX_FILE_SIZE}
use Rattle.elf_image.specs.File.{HasTable, e_entry, e_ehsize, e_phentsize, e_phnum, segment_headers}
use Rattle.elf_image.specs.Faults.{told_if, has_bad_header_table, is_too_large, is_not_code, has_two_certificates, has_certificate, holds, first_of, header_faults, place_faults, fault_of}
use Rattle.elf_image.specs.Attached.{attach_fault, attached_of, outgrows}
use Rattle.elf_image.proofs.HasImage.{neither}
use Rattle.elf_image.proofs.FaultLemmas.{HasHeader, HasPlaces, not_told, has_header, has_places}

-- no fault but for its size and its certificates
pub record IsSound (file : List ℕ) : Type 0 where
  pub header : HasHeader file
  pub places : HasPlaces file
  pub large : is_too_large (length file) (segment_headers file) ≡ false
  pub code : is_not_code (e_entry file) (segment_headers file) ≡ false

pub record IsAttached (file cert : List ℕ) : Type 0 where
  pub sound : IsSound file
  pub room : outgrows file cert ≡ false
  pub free : has_certificate file ≡ false

-- no fault where each is none
pub no_fault : (file : List ℕ) → IsSound file → has_two_certificates file ≡ false → fault_of file ≡ None
unfolding fault_of
no_fault file s one =
    let h = s.header in
    let p = s.places in
    rw (h.short, h.magic, h.class, h.executable, h.machine, h.flags, h.table, p.static, p.inside, p.place, p.apart, p.exclusive, s.large, s.code, one) refl

neither_told : {X : Type 0} (x y : Option X) → option_or x y ≡ None → (x ≡ None) × (y ≡ None)
neither_told None y e = (refl, e)
neither_told (Some x) y e = absurd cc

is_not_so : (fault : ElfError) (b : Bool) → told_if fault b ≡ None → b ≡ false
is_not_so fault true e = absurd cc
is_not_so fault false e = refl

pub is_attached : (file cert : List ℕ) → attach_fault file cert ≡ None → IsAttached file cert
unfolding attach_fault
is_attached file cert e =
    let front = neither_told (first_of (header_faults ++ place_faults) file) _ e in
    let back = neither_told (told_if TooLarge (holds TooLarge file || outgrows file cert)) _ front.1 in
    let large = neither (holds TooLarge file) (outgrows file cert) (is_not_so TooLarge _ back.0) in
    let header = has_header file place_faults (sym front.0) in
    let places = has_places file [] header.1 in
    let code = not_told _ _ _ (sym back.1) in
    let two = not_told _ _ _ code.1 in
    let free = not_told _ _ _ two.1 in
    record {
      sound = record { header = header.0; places = places.0; large = large.0; code = code.0 };
      room = large.1;
      free = free.0;
    }

-- its table of program headers is as the standard has it, and in the file
pub record IsTable (file : List ℕ) : Type 0 where
  pub header_size : e_ehsize file ≡ 52
  pub entry_size : e_phentsize file ≡ 32
  pub has_table : HasTable file

pub is_table : (file : List ℕ) → HasHeader file → IsTable file
unfolding has_bad_header_table
is_table file h =
    let a = neither _ _ h.table in
    let b = neither _ _ a.0 in
    let count = neither _ _ b.1 in
    let sizes = neither _ _ b.0 in
    record {
      header_size = eqb-true _ _ (not-false _ sizes.0);
      entry_size = eqb-true _ _ (not-false _ sizes.1);
      has_table = record {
        header = ltb-false _ _ h.short;
        count = ltb-false _ _ count.1;
        inside = ltb-false _ _ a.1;
      };
    }

-- there is room for one header more, and the size is not above the limit
pub room_for : (file cert : List ℕ) → outgrows file cert ≡ false → (e_phnum file < 64) × (length (attached_of file cert) ≤ 4194304)
unfolding outgrows
room_for file cert e =
    let both = neither (leb MAX_PROGRAM_HEADERS (e_phnum file)) (ltb MAX_FILE_SIZE (length (attached_of file cert))) e in
    (leb-false _ _ both.0, ltb-false _ _ both.1)
