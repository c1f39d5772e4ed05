-- What is known after an instruction that sets vtype and vl is true of the machine to which it leads.
use Rattle.std.proofs.Common.{◌≡◌, ◌<◌, ◌≤◌, ◌*◌, ◌^◌, inl, inr, ℕ, Bool, true, false, arith, refl, sym, ap, ◌∙◌, subst, length, Option, Some, None, IfSome}
use Rattle.std.specs.Prelude.{if◌then◌else◌, ◌==◌, nat_le, min, MatchOption}
use Rattle.std.proofs.lemmas.Bool.Decides.{nat_tests}
use Rattle.linear_facts.specs.Forms.{number_form}
use Rattle.linear_facts.specs.FormLemmas.{number-IsForm}
use Rattle.vreg_groups.specs.declared.vector_length.Avl.{Avl}
use Rattle.vreg_groups.specs.declared.vector_length.Avl.TheVariants as avl
use Rattle.vreg_groups.specs.declared.vector_length.Vconfig.{Vconfig}
use Rattle.vreg_groups.specs.declared.vector_type.Vtype.{Vtype}
use Rattle.vreg_groups.specs.VectorType.{vtype_of, vlmax_of}
use Rattle.vreg_groups.specs.VectorLength.{IsVlenb, IsConfig, no_config, supported_vset, requested_vset, vset_of}
use Rattle.vreg_groups.specs.SizeLemmas.{vlmax_small}
use Rattle.scalar_core.specs.Hart.{Hart, reg_of}
use Rattle.abs_transfer.specs.declared.vset.Asked.{Asked}
use Rattle.abs_transfer.specs.declared.vset.Asked.TheVariants.{Keep, Greatest, Register, Number}
use Rattle.abs_domain.specs.Values.{ValueView, just, up_to}
use Rattle.abs_domain.specs.Numbers.{NumbersView, value_at, with_value}
use Rattle.abs_domain.specs.Described.{LiesIn, IsNumber}
use Rattle.abs_domain.specs.Holds.{Holds, Follows}
use Rattle.abs_transfer.specs.Vset.{Configured, configured, has_vlmax, kept_or_zero, known_request, limited, supported_request, unknown_length, unknown_request}
use Rattle.abs_transfer.specs.AddressLemmas.{register_holds}
use Rattle.abs_domain.specs.OperationLemmas.{value_number}
use Rattle.abs_transfer.specs.SplitLemmas.{fresh_length, length_holds, limited_holds, same_length}

-- ---- vtype and vl

-- the bits of a type that is supported
pub type_fits : (bits : ℕ) (t : Vtype) → vtype_of bits ≡ Some t → bits < 256
unfolding vtype_of
type_fits bits t e = by_test (nat_le 256 bits) _ refl e
  where
    by_test : (c : Bool) (others : Option Vtype) → nat_le 256 bits ≡ c → (if c then None else others) ≡ Some t → bits < 256
    by_test true others k e = cc
    by_test false others k e = grind (arith, nat_tests)

pub no_config_is : (vlenb : ℕ) → IsConfig vlenb no_config
unfolding IsConfig vtype_of
no_config_is vlenb = refl

config_is : (vlenb : ℕ) (config : Vconfig) (t : Vtype) → vtype_of config.vtype ≡ Some t → config.vl ≤ vlmax_of vlenb t → IsConfig vlenb config
unfolding IsConfig
config_is vlenb config t e l = rw e l

-- vl is at most VLEN
pub config_low : (vlenb : ℕ) (config : Vconfig) → IsConfig vlenb config → config.vl ≤ 8 * vlenb
unfolding IsConfig
config_low vlenb config h = by_type (vtype_of config.vtype) h
  where
    by_type : (o : Option Vtype) → MatchOption o (config ≡ no_config) (λ t. config.vl ≤ vlmax_of vlenb t) → config.vl ≤ 8 * vlenb
    by_type None e = (let is : config.vl ≡ 0 = ap (λ (c : Vconfig). c.vl) e in omega (arith, is))
    by_type (Some t) l = vlmax_small t vlenb config.vl l

pub config_within : (vlenb : ℕ) (config : Vconfig) (t : Vtype) → vtype_of config.vtype ≡ Some t → IsConfig vlenb config → config.vl ≤ vlmax_of vlenb t
unfolding IsConfig
config_within vlenb config t e h = rw e at h

-- what a request for a supported type makes of vtype and vl
supported_is : (vlenb : ℕ) (config : Vconfig) (asked : Avl) (bits : ℕ) (t : Vtype) → vtype_of bits ≡ Some t → IsConfig vlenb config
    → (o : Option Vtype) → vtype_of config.vtype ≡ o → IsConfig vlenb (supported_vset vlenb config o asked bits (vlmax_of vlenb t))
unfolding supported_vset
supported_is vlenb config avl.Keep bits t e h None is = no_config_is vlenb
supported_is vlenb config avl.Keep bits t e h (Some before) is = by_test (vlmax_of vlenb before == vlmax_of vlenb t) refl
  where
    by_test : (b : Bool) → (vlmax_of vlenb before == vlmax_of vlenb t) ≡ b
        → IsConfig vlenb (if b then record { vtype = bits; vl = config.vl } else no_config)
    by_test true k =
        let same : vlmax_of vlenb before ≡ vlmax_of vlenb t = grind (arith, nat_tests) in
        config_is vlenb (record { vtype = bits; vl = config.vl }) t e (omega (arith, config_within vlenb config before is h, same))
    by_test false k = no_config_is vlenb
supported_is vlenb config avl.Greatest bits t e h None is = config_is vlenb (record { vtype = bits; vl = vlmax_of vlenb t }) t e (omega arith)
supported_is vlenb config avl.Greatest bits t e h (Some before) is = config_is vlenb (record { vtype = bits; vl = vlmax_of vlenb t }) t e (omega arith)
supported_is vlenb config (avl.Of n) bits t e h None is = config_is vlenb (record { vtype = bits; vl = min n (vlmax_of vlenb t) }) t e (omega arith)
supported_is vlenb config (avl.Of n) bits t e h (Some before) is =
    config_is vlenb (record { vtype = bits; vl = min n (vlmax_of vlenb t) }) t e (omega arith)

-- a request leaves vtype and vl as they can be
pub vset_is : (vlenb : ℕ) (config : Vconfig) (asked : Avl) (bits : ℕ) → IsConfig vlenb config → IsConfig vlenb (vset_of vlenb config asked bits)
unfolding vset_of requested_vset
vset_is vlenb config asked bits h = by_type (vtype_of bits) refl
  where
    by_type : (o : Option Vtype) → vtype_of bits ≡ o → IsConfig vlenb (requested_vset vlenb config asked bits o)
    by_type None e = no_config_is vlenb
    by_type (Some t) e = supported_is vlenb config asked bits t e h (vtype_of config.vtype) refl

-- a request that keeps vl leaves it as it is, or as 0
keep_low : (vlenb : ℕ) (config : Vconfig) (bits m : ℕ) (o : Option Vtype) → (supported_vset vlenb config o avl.Keep bits m).vl ≤ config.vl
unfolding supported_vset
keep_low vlenb config bits m None = omega arith
keep_low vlenb config bits m (Some before) = by_test (vlmax_of vlenb before == m)
  where
    by_test : (b : Bool) → (if b then record { vtype = bits; vl = config.vl } else no_config).vl ≤ config.vl
    by_test true = omega arith
    by_test false = omega arith

kept_low : (vlenb : ℕ) (config : Vconfig) (bits : ℕ) → (vset_of vlenb config avl.Keep bits).vl ≤ config.vl
unfolding vset_of requested_vset
kept_low vlenb config bits = by_type (vtype_of bits)
  where
    by_type : (o : Option Vtype) → (requested_vset vlenb config avl.Keep bits o).vl ≤ config.vl
    by_type None = omega arith
    by_type (Some t) = keep_low vlenb config bits (vlmax_of vlenb t) (vtype_of config.vtype)

greatest_is : (vlenb : ℕ) (config : Vconfig) (bits m : ℕ) (o : Option Vtype)
    → supported_vset vlenb config o avl.Greatest bits m ≡ record { vtype = bits; vl = m }
unfolding supported_vset
greatest_is vlenb config bits m None = refl
greatest_is vlenb config bits m (Some before) = refl

lesser_is : (vlenb : ℕ) (config : Vconfig) (n bits m : ℕ) (o : Option Vtype)
    → supported_vset vlenb config o (avl.Of n) bits m ≡ record { vtype = bits; vl = min n m }
unfolding supported_vset
lesser_is vlenb config n bits m None = refl
lesser_is vlenb config n bits m (Some before) = refl

-- ---- what is asked for

-- the length, as the hart has it
abbrev pub avl_asked : Asked → Hart → Avl
avl_asked Keep h = avl.Keep
avl_asked Greatest h = avl.Greatest
avl_asked (Register r) h = avl.Of (reg_of r h)
avl_asked (Number n) h = avl.Of n

abbrev pub AskedFits : Asked → Type 0
AskedFits Keep = Unit {0}
AskedFits Greatest = Unit {0}
AskedFits (Register r) = r < 32
AskedFits (Number n) = n < 2 ^ 32

-- what is known of vtype and vl is true where they are those next
pub record IsConfigured (c : Configured) (s : NumbersView) (v : ℕ → ℕ) (h : Hart) (config next : Vconfig) : Type 0 where
  pub follows : Follows s c.numbers v h next
  pub vtype : IfSome c.vtype (λ t. next.vtype ≡ t)
  pub kept : c.is_kept ≡ true → next.vl ≡ config.vl

module _ (vlenb : ℕ) (s : NumbersView) (v : ℕ → ℕ) (h : Hart) (config : Vconfig) (is : IsVlenb vlenb) (proper : IsConfig vlenb config)
    (holds : Holds s v h config) where
  abbrev Is : Configured → Vconfig → Type 0
  Is c next = IsConfigured c s v h config next

  -- vl has a new number
  unknown_is : (hi : ℕ) (next : Vconfig) → next.vl ≤ hi → hi < 2 ^ 32 → Is (unknown_length (up_to hi) s) next
  unknown_is hi next l fits = record {
    follows = fresh_length s v h config next (up_to hi) holds (record { low = omega arith; high = l; fits = fits });
    vtype = tt;
    kept = λ e. cc;
  }

  old_length : LiesIn (value_at s 32).range config.vl
  old_length = (holds.each 32 (omega arith)).lies

  kept_is : (next : Vconfig) → next.vl ≤ config.vl → Is (kept_or_zero s) next
  kept_is next l = unknown_is (value_at s 32).range.hi next (omega (arith, l, old_length.high)) old_length.fits

  -- no type has more elements than VLEN has bits
  any_is : (asked : Avl) (bits : ℕ) → Is (unknown_length (up_to (8 * vlenb)) s) (vset_of vlenb config asked bits)
  any_is asked bits =
      unknown_is (8 * vlenb) (vset_of vlenb config asked bits)
      (config_low vlenb (vset_of vlenb config asked bits) (vset_is vlenb config asked bits proper)) (small is)
    where
      small : IsVlenb vlenb → 8 * vlenb < 2 ^ 32
      small (inl e) = omega (arith, e)
      small (inr (inl e)) = omega (arith, e)
      small (inr (inr e)) = omega (arith, e)

  -- a number of 32 bits
  constant : (n : ℕ) → n < 2 ^ 32 → IsNumber (length s.atoms) v record { form = number_form n; range = just n } n
  constant n l = record {
    means = record { form = number-IsForm 8 n l; below = tt; number = value_number v n l };
    lies = record { low = omega arith; high = omega arith; fits = l };
  }

  -- the type is not supported
  zero_is : Is (record { numbers = with_value 32 record { form = number_form 0; range = just 0 } s; vtype = None; is_kept = false }) no_config
  unfolding with_value
  zero_is = record {
    follows = record {
      numbers = v;
      same = λ a l. refl;
      grows = omega arith;
      holds = length_holds s v h config no_config (record { form = number_form 0; range = just 0 }) holds (constant 0 (omega arith));
    };
    vtype = tt;
    kept = λ e. cc;
  }

  -- the type is supported: vl is kept
  keep_is : (known : Option ℕ) (bits m : ℕ) (o : Option Vtype) → vtype_of config.vtype ≡ o → IfSome known (λ t. config.vtype ≡ t)
      → Is (if has_vlmax vlenb known m then record { numbers = s; vtype = Some bits; is_kept = true } else kept_or_zero s)
      (supported_vset vlenb config o avl.Keep bits m)
  unfolding has_vlmax supported_vset
  keep_is None bits m o e k = kept_is (supported_vset vlenb config o avl.Keep bits m) (keep_low vlenb config bits m o)
  keep_is (Some t) bits m None e k =
      rw (ap vtype_of (sym k) ∙ e) (kept_is no_config (omega arith))
  keep_is (Some t) bits m (Some before) e k = rw (ap vtype_of (sym k) ∙ e) (by_test (vlmax_of vlenb before == m))
    where
      by_test : (b : Bool) → Is (if b then record { numbers = s; vtype = Some bits; is_kept = true } else kept_or_zero s)
          (if b then record { vtype = bits; vl = config.vl } else no_config)
      by_test true =
          let next : Vconfig = record { vtype = bits; vl = config.vl } in
          record {
            follows = record { numbers = v; same = λ a l. refl; grows = omega arith; holds = same_length s v h config next holds refl };
            vtype = refl;
            kept = λ e. refl;
          }
      by_test false = kept_is no_config (omega arith)

  -- the type is supported: vl is the lesser of a number and VLMAX
  lesser_held : (bits m x : ℕ) (a : ValueView) → IsNumber (length s.atoms) v a x
      → Is (record { numbers = limited m a s; vtype = Some bits; is_kept = false }) (record { vtype = bits; vl = min x m })
  lesser_held bits m x a number = record {
    follows = limited_holds s v h config (record { vtype = bits; vl = min x m }) m a x holds number refl;
    vtype = refl;
    kept = λ e. cc;
  }

  supported_held : (known : Option ℕ) (asked : Asked) (bits m : ℕ) → IfSome known (λ t. config.vtype ≡ t) → AskedFits asked → m < 2 ^ 32
      → Is (supported_request vlenb known asked bits m s) (supported_vset vlenb config (vtype_of config.vtype) (avl_asked asked h) bits m)
  unfolding supported_request
  supported_held known Keep bits m k fits l = keep_is known bits m (vtype_of config.vtype) refl k
  supported_held known Greatest bits m k fits l =
      let next : Vconfig = record { vtype = bits; vl = m } in
      rw (greatest_is vlenb config bits m (vtype_of config.vtype))
      record {
        follows = fresh_length s v h config next (just m) holds (record { low = omega arith; high = omega arith; fits = l });
        vtype = refl;
        kept = λ e. cc;
      }
  supported_held known (Register r) bits m k fits l =
      rw (lesser_is vlenb config (reg_of r h) bits m (vtype_of config.vtype))
      (lesser_held bits m (reg_of r h) (value_at s r) (register_holds s v h config holds r fits))
  supported_held known (Number n) bits m k fits l =
      rw (lesser_is vlenb config n bits m (vtype_of config.vtype))
      (lesser_held bits m n (record { form = number_form n; range = just n }) (constant n fits))

  -- the bits are known
  known_held : (known : Option ℕ) (asked : Asked) (bits : ℕ) → IfSome known (λ t. config.vtype ≡ t) → AskedFits asked
      → Is (known_request vlenb known asked bits (vtype_of bits) s) (vset_of vlenb config (avl_asked asked h) bits)
  unfolding known_request vset_of requested_vset
  known_held known asked bits k fits = by_type (vtype_of bits)
    where
      by_type : (o : Option Vtype) → Is (known_request vlenb known asked bits o s) (requested_vset vlenb config (avl_asked asked h) bits o)
      by_type None = zero_is
      by_type (Some t) = supported_held known asked bits (vlmax_of vlenb t) k fits (small is (vlmax_small t vlenb (vlmax_of vlenb t) (omega arith)))
        where
          small : IsVlenb vlenb → vlmax_of vlenb t ≤ 8 * vlenb → vlmax_of vlenb t < 2 ^ 32
          small (inl e) l = omega (arith, e, l)
          small (inr e) l = omega (arith, e, l)

  -- the bits are not known
  unknown_held : (asked : Asked) (bits : ℕ) → Is (unknown_request vlenb asked s) (vset_of vlenb config (avl_asked asked h) bits)
  unfolding unknown_request
  unknown_held Keep bits = kept_is (vset_of vlenb config avl.Keep bits) (kept_low vlenb config bits)
  unknown_held Greatest bits = any_is avl.Greatest bits
  unknown_held (Register r) bits = any_is (avl.Of (reg_of r h)) bits
  unknown_held (Number n) bits = any_is (avl.Of n) bits

  pub configured_held : (known : Option ℕ) (asked : Asked) (wanted : Option ℕ) (bits : ℕ) → IfSome known (λ t. config.vtype ≡ t)
      → IfSome wanted (λ t. bits ≡ t) → AskedFits asked
      → Is (configured vlenb known asked wanted s) (vset_of vlenb config (avl_asked asked h) bits)
  unfolding configured
  configured_held known asked None bits k e fits = unknown_held asked bits
  configured_held known asked (Some wanted) bits k e fits =
      subst (λ (b : ℕ). Is (known_request vlenb known asked wanted (vtype_of wanted) s) (vset_of vlenb config (avl_asked asked h) b)) (sym e)
      (known_held known asked wanted k fits)
