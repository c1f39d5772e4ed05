-- What an instruction that sets vtype and vl makes of what is known ("Vector Configuration-Setting
-- Instructions").
use Rattle.std.specs.Prelude.{ℕ, ◌+◌, ◌-◌, ◌*◌, ◌==◌, min, Bool, true, false, if◌then◌else◌, List, [], ◌∷◌, ◌++◌, length, Option, Some, None}
use Rattle.std.specs.Option.{option_and_then, option_map_or}
use Rattle.abs_transfer.specs.Words.{Range, Atom, number_form, atom_form, Vtype, vtype_of, vlmax_of}
use Rattle.rv_decode.specs.declared.instructions.VSet.{VSet}
use Rattle.rv_decode.specs.declared.instructions.VSet.TheVariants.{Vsetvli, Vsetivli, Vsetvl}
use Rattle.abs_transfer.specs.declared.vset.Asked.{Asked}
use Rattle.abs_transfer.specs.declared.vset.Asked.TheVariants.{Keep, Greatest, Register, Number}
use Rattle.abs_transfer.specs.declared.vset.Wanted.{Wanted}
use Rattle.abs_domain.specs.declared.values.Effect.TheVariants.{Copied}
use Rattle.abs_domain.specs.Values.{ValueView, just, known_of, up_to}
use Rattle.abs_domain.specs.Numbers.{NumbersView, plain, value_at, whole_atom, with_fresh, with_result, with_split, with_value}

-- ---- what is asked for

-- the application vector length: x[rs1]; with rs1 = x0 the greatest, or the present vl
-- where rd is x0 too
abbrev pub asked_of : ℕ → ℕ → Asked
asked_of rd rs1 = if rs1 == 0 then (if rd == 0 then Keep else Greatest) else Register rs1

-- the register that gets vl, the length, and the bits of vtype, if they are known
unfoldable pub wanted_of : VSet → NumbersView → Wanted
wanted_of (Vsetvli rd rs1 vtype) s =
    record { rd = rd; length = asked_of rd rs1; vtype = Some vtype }
wanted_of (Vsetivli rd avl vtype) s = record { rd = rd; length = Number avl; vtype = Some vtype }
wanted_of (Vsetvl rd rs1 rs2) s =
    record { rd = rd; length = asked_of rd rs1; vtype = known_of (value_at s rs2).range }

-- ---- the lesser of a number and VLMAX

-- an atom is the sum of two new ones
unfoldable pub split_into : ℕ → Range → Range → List Atom → List Atom
split_into a r t atoms =
    with_split a record { first = length atoms; second = length atoms + 1 }
    ((atoms ++ plain r ∷ []) ++ plain t ∷ [])

-- vl is a new atom; where the number that was asked for is an atom as a whole, that is the sum of
-- vl and of the rest
unfoldable pub limited_by : Option ℕ → Range → Range → NumbersView → NumbersView
limited_by None r t s = with_fresh 32 r s
limited_by (Some a) r t s =
    with_value 32 record { form = atom_form (length s.atoms); range = r }
    record s { atoms = split_into a r t s.atoms }

-- the range of the lesser of a number and m, and of what the number is above m
abbrev pub lesser_range : ℕ → Range → Range
lesser_range m r = record { lo = min r.lo m; hi = min r.hi m }

abbrev pub excess_range : ℕ → Range → Range
excess_range m r = record { lo = r.lo - m; hi = r.hi - m }

unfoldable pub limited : ℕ → ValueView → NumbersView → NumbersView
limited m a s = limited_by (whole_atom a.form) (lesser_range m a.range) (excess_range m a.range) s

-- ---- vl and vtype

-- The numbers with the new vl; vtype, if it is known; whether vl is what it was.
pub record Configured : Type 0 where
  pub numbers : NumbersView
  pub vtype : Option ℕ
  pub is_kept : Bool

-- vl is a new number in a range, and vtype is not known
abbrev pub unknown_length : Range → NumbersView → Configured
unknown_length r s = record { numbers = with_fresh 32 r s; vtype = None; is_kept = false }

-- vl is at most what it was: it was kept, or is 0
abbrev pub kept_or_zero : NumbersView → Configured
kept_or_zero s = unknown_length (up_to (value_at s 32).range.hi) s

-- the type that is known has this VLMAX
unfoldable pub has_vlmax : ℕ → Option ℕ → ℕ → Bool
has_vlmax vlenb known m =
    option_map_or (λ t. vlmax_of vlenb t == m) (option_and_then vtype_of known) false

-- the request for a supported type of these bits, whose VLMAX is m
unfoldable pub supported_request : ℕ → Option ℕ → Asked → ℕ → ℕ → NumbersView → Configured
supported_request vlenb known Keep bits m s =
    if has_vlmax vlenb known m then record { numbers = s; vtype = Some bits; is_kept = true }
    else kept_or_zero s
supported_request vlenb known Greatest bits m s =
    record { numbers = with_fresh 32 (just m) s; vtype = Some bits; is_kept = false }
supported_request vlenb known (Register r) bits m s =
    record { numbers = limited m (value_at s r) s; vtype = Some bits; is_kept = false }
supported_request vlenb known (Number n) bits m s = record {
  numbers = limited m record { form = number_form n; range = just n } s;
  vtype = Some bits;
  is_kept = false;
}

-- the request for these bits: vl is 0 where they are not supported
unfoldable pub known_request : ℕ → Option ℕ → Asked → ℕ → Option Vtype → NumbersView → Configured
known_request vlenb known length bits None s = record {
  numbers = with_value 32 record { form = number_form 0; range = just 0 } s;
  vtype = None;
  is_kept = false;
}
known_request vlenb known length bits (Some t) s =
    supported_request vlenb known length bits (vlmax_of vlenb t) s

-- the request for bits that are not known: no type has more than VLEN elements
unfoldable pub unknown_request : ℕ → Asked → NumbersView → Configured
unknown_request vlenb Keep s = kept_or_zero s
unknown_request vlenb Greatest s = unknown_length (up_to (8 * vlenb)) s
unknown_request vlenb (Register r) s = unknown_length (up_to (8 * vlenb)) s
unknown_request vlenb (Number n) s = unknown_length (up_to (8 * vlenb)) s

unfoldable pub configured : ℕ → Option ℕ → Asked → Option ℕ → NumbersView → Configured
configured vlenb known length None s = unknown_request vlenb length s
configured vlenb known length (Some bits) s =
    known_request vlenb known length bits (vtype_of bits) s

-- a register gets vl's number
unfoldable pub with_length_in : ℕ → NumbersView → NumbersView
with_length_in rd s = with_result rd (Copied (value_at s 32).form (value_at s 32).range) s
