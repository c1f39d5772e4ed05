-- What is known where a block begins is true of a machine that fits it, and what is known where a run begins of its first one.
use Rattle.std.proofs.Common.{◌≡◌, ℕ, ◌<◌, ◌≤◌, ◌+◌, ◌*◌, ◌^◌, inl, inr, arith, refl, ap, ◌∙◌, length, List, [], Option, Some, None}
use Rattle.std.specs.Prelude.{◌==◌, MatchOption}
use Rattle.std.specs.List.{AllByRecursion}
use Rattle.elf_image.specs.Image.{IsImage}
use Rattle.region_mem.specs.declared.parameter.Param.{Param}
use Rattle.region_mem.specs.Laws.{BringsBytes}
use Rattle.region_mem.specs.Parameter.{Argument, AreArguments}
use Rattle.region_mem.specs.Start.{start_memory}
use Rattle.region_mem.specs.ByteLemmas.{starts_with_bytes}
use Rattle.region_mem.specs.StartCodeLemmas.{starts_code_safe, starts_with_code}
use Rattle.vreg_groups.specs.declared.policies.Agnostic.{Agnostic}
use Rattle.vreg_groups.specs.declared.vector_length.Vconfig.{Vconfig}
use Rattle.vreg_groups.specs.declared.vector_length.Vlen.{Vlen}
use Rattle.vreg_groups.specs.declared.vector_length.Vlen.TheVariants.{V128, V256, V512}
use Rattle.vreg_groups.specs.declared.vector_type.Vtype.{Vtype}
use Rattle.vreg_groups.specs.VectorType.{vtype_of, vlmax_of}
use Rattle.vreg_groups.specs.VectorLength.{IsVlenb, IsConfig, no_config, vlenb_of}
use Rattle.vreg_groups.specs.SizeLemmas.{vlmax_small}
use Rattle.scalar_core.specs.Hart.{Hart, IsHart, reg_of}
use Rattle.vector_core.specs.Vectors.{Vectors, new_vectors}
use Rattle.machine.specs.Machine.{Machine}
use Rattle.machine.specs.Start.{start, start_hart}
use Rattle.cert_note.specs.declared.values.RegisterFact.{RegisterFact}
use Rattle.cert_note.specs.declared.values.Block.{Block}
use Rattle.cert_note.specs.declared.values.OrderFact.{OrderFact}
use Rattle.cert_note.specs.Certificate.{IsBlock, IsCertificate, after_block}
use Rattle.abs_domain.specs.Holds.{Holds}
use Rattle.abs_domain.specs.Starts.{entry_numbers, start_numbers, numbers_by}
use Rattle.abs_state.specs.Blocks.{at_block_of, at_entry_of}
use Rattle.abs_domain.specs.BlockLaws.{ArePassed, HoldsWith}
use Rattle.abs_state.specs.EntryLemmas.{start_pc}
use Rattle.abs_state.specs.Held.{Setting, Held, IsProper, number_at, vlenb_in}
use Rattle.abs_state.specs.StartLaws.{ArePassedBy, BlocksAreHeld, EntriesAreHeld}
use Rattle.abs_transfer.specs.AddressLemmas.{register_holds}
use Rattle.abs_transfer.specs.ConfigurationLemmas.{no_config_is}
use Rattle.abs_state.proofs.EntryHart.{all_valid, are_passed, code_low, numbers_fit, start_is_entry, start_is_hart, zeros_count, zeros_small}
use Rattle.abs_domain.specs.StartFormLemmas.{budget_below, second_below, found_is}
use Rattle.abs_domain.specs.OrderStartLemmas.{block_numbers_hold}
use Rattle.abs_domain.specs.StartNumberLemmas.{atoms_many, entry_numbers_hold, number_past}
use Rattle.abs_domain.specs.StartZoneLemmas.{zones_are_there}

-- ---- numbers of 32 bits

vl_fits : (vlenb : ℕ) (config : Vconfig) → IsVlenb vlenb → IsConfig vlenb config → config.vl < 2 ^ 32
unfolding IsConfig
vl_fits vlenb config is h = by_type (vtype_of config.vtype) h
  where
    small : config.vl ≤ 8 * vlenb → config.vl < 2 ^ 32
    small l = by_length is
      where
        by_length : IsVlenb vlenb → config.vl < 2 ^ 32
        by_length (inl e) = omega (arith, e, l)
        by_length (inr e) = omega (arith, e, l)

    by_type : (o : Option Vtype) → MatchOption o (config ≡ no_config) (λ t. config.vl ≤ vlmax_of vlenb t) → config.vl < 2 ^ 32
    by_type None f = (let none : config.vl ≡ 0 = ap (λ (c : Vconfig). c.vl) f in omega (arith, none))
    by_type (Some t) f = small (vlmax_small t vlenb config.vl f)

-- ---- blocks

pub blocks-are_held : BlocksAreHeld
unfolding at_block_of
blocks-are_held e block m is at fits =
    let config : Vconfig = m.vectors.config in
    let params : List Param = e.certificate.parameters in
    let facts : List RegisterFact = block.registers.items in
    let orders : List OrderFact = block.orders.items in
    let block_is = found_is (IsBlock e.certificate.version e.certificate.vlen params) after_block (λ (b : Block). b.start == m.hart.pc) 0 e.certificate.blocks block is.certificate.blocks at in
    let vl = vl_fits (vlenb_in e) config fits.proper.vectors.vlenb_is fits.proper.vectors.config in
    let with : HoldsWith (start_numbers params facts orders) (number_at e m) m.hart config =
    block_numbers_hold e.certificate block m.hart.pc e.passed m.hart config is.certificate at is.passed fits.proper.hart vl
    fits.facts fits.orders in
    let known = with.holds in
    let first : block.budget.register < 32 = budget_below block.budget block_is.1.budget in
    let second : block.budget.second_register < 32 = second_below block.budget block_is.1.budget in
    record {
      numbers = with.numbers;
      known = record {
        vlenb = refl;
        count = with.grows;
        passed = λ place l. with.same (33 + place) (omega (arith, l)) ∙ number_past e.passed m.hart config place;
        known = known;
        zones = refl;
        vtype = fits.vtype;
        groups = fits.vectors;
        paid = (
          reg_of block.budget.register m.hart,
          reg_of block.budget.second_register m.hart,
          refl,
          register_holds (start_numbers params facts orders) with.numbers m.hart config known block.budget.register first,
          register_holds (start_numbers params facts orders) with.numbers m.hart config known block.budget.second_register second,
        );
        proper = fits.proper;
      };
      way = fits.pc;
    }

-- ---- entries

vlen_is : (vlen : Vlen) → IsVlenb (vlenb_of vlen)
vlen_is V128 = inl refl
vlen_is V256 = inr (inl refl)
vlen_is V512 = inr (inr refl)

entry_atoms : (params : List Param) → length (entry_numbers params).atoms ≡ 41
unfolding entry_numbers numbers_by
entry_atoms params = atoms_many params []

module _ (e : Setting) (agnostic : Agnostic) (args : List Argument) (image : IsImage e.image) (certificate : IsCertificate e.certificate)
    (eight : length args ≡ 8) (matching : AreArguments e.certificate.parameters args) (brings : AllByRecursion BringsBytes args)
    (by : ArePassedBy e args) where
  abbrev params : List Param
  params = e.certificate.parameters

  abbrev hart : Hart
  hart = start_hart e.image.entry params args

  abbrev vectors : Vectors
  vectors = new_vectors (vlenb_in e) agnostic

  abbrev machine : Machine
  machine = record { hart = hart; vectors = vectors; memory = start_memory e.image params args }

  is_hart : IsHart hart
  is_hart =
      start_is_hart e.image.entry params args (code_low e.image.segments e.image.entry image.each image.entry_is_code)
      (numbers_fit params args certificate.eight certificate.parameters eight matching)

  passed : ArePassed params e.passed
  passed = are_passed params args certificate.eight certificate.parameters eight matching e.passed by.each by.past

  proper : IsProper e machine
  proper =
      let valid = all_valid params certificate.parameters in
      record {
        hart = is_hart;
        vectors = record { vlenb_is = vlen_is e.certificate.vlen; config = no_config_is (vlenb_in e) };
        registers = record {
          count = zeros_count (32 * vlenb_in e);
          bytes = λ i. zeros_small (32 * vlenb_in e) i 256 (omega arith);
        };
        bytes = starts_with_bytes e.image params args image brings;
        zones = zones_are_there e.image params args image valid certificate.eight eight matching;
        code = starts_with_code e.image params args image valid certificate.eight eight matching;
        safe = starts_code_safe e.image params args image valid certificate.eight eight matching;
      }

  entry_known : Holds (entry_numbers params) (number_at e machine) hart vectors.config
  entry_known =
      entry_numbers_hold params e.passed hart vectors.config passed is_hart (start_is_entry e.image.entry params args e.passed by.each) refl

  entry_held : (n : ℕ) → Held e n (at_entry_of e.image e.certificate) machine
  unfolding at_entry_of
  entry_held n = record {
    numbers = number_at e machine;
    known = record {
      vlenb = refl;
      count = omega (arith, entry_atoms params);
      passed = λ place l. number_past e.passed hart vectors.config place;
      known = entry_known;
      zones = refl;
      vtype = tt;
      groups = tt;
      paid = tt;
      proper = proper;
    };
    way = start_pc e.image.entry params args;
  }

pub entries-are_held : EntriesAreHeld
unfolding start
entries-are_held e n agnostic args image certificate eight matching brings by = (
  record {
    image = image;
    certificate = certificate;
    passed = passed e agnostic args image certificate eight matching brings by;
  },
  entry_held e agnostic args image certificate eight matching brings by n,
)
