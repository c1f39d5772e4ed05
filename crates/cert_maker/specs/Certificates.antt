-- The certificate of a loop, of version 1: a block for the branch at the entry, one for the loop,
-- unless it is never entered, and one for the return.
use Rattle.std.specs.Prelude.{ℕ, ◌+◌, ◌*◌, ◌-◌, ◌^◌, ◌==◌, if◌then◌else◌, List, [], ◌∷◌, ◌++◌}
use Rattle.std.specs.Prelude.{unwrap_or, Option, Some, None}
use Rattle.std.specs.List.{flat_map, range_with_len}
use Rattle.std.specs.Option.{option_to_list}
use Rattle.cert_note.specs.declared.values.Version.TheVariants.{V1}
use Rattle.region_mem.specs.Parameter.{address_of}
use Rattle.scalar_core.specs.Hart.{exit}
use Rattle.cert_maker.specs.declared.loops.Loop.{Loop}
use Rattle.cert_maker.specs.Words.{ImageView, Param, Vlen, CertificateView, Budget, Block}
use Rattle.cert_maker.specs.Words.{Equality, EqualityTerm, RegisterFact}
use Rattle.cert_maker.specs.Loops.{size_of, is_flagged}

abbrev pub term : ℕ → ℕ → EqualityTerm
term atom coefficient = record { atom = atom; coefficient = coefficient }

abbrev pub sum : ℕ → List EqualityTerm → Option Equality
sum constant terms = Some record { constant = constant; terms = record { items = terms } }

abbrev pub fact : ℕ → ℕ → ℕ → Option Equality → RegisterFact
fact number low high equality =
    record { number = number; low = low; high = high; equality = equality }

-- ra (x1) is EXIT, and what is stated of argument registers, by place: that of place j is x10 + j
abbrev pub facts_by : (ℕ → Option RegisterFact) → List RegisterFact
facts_by stated =
    fact 1 exit exit None ∷ flat_map (λ place. option_to_list (stated place)) (range_with_len 0 8)

-- one fact on the count, and one on each pointer
abbrev pub stated_by : Loop → RegisterFact → (ℕ → RegisterFact) → ℕ → Option RegisterFact
stated_by loop of_count of_pointer place =
    if place + 10 == loop.count then Some of_count
    else (if is_flagged (place + 10) loop.pointers then Some (of_pointer place) else None)

-- the address of the buffer at a place
abbrev pub base_of : List Param → ℕ → ℕ
base_of params place = unwrap_or (address_of place params) 0

-- At the entry the count is the argument at its place, whose atom is 33 and the place, and each
-- pointer stands at its buffer's start.
abbrev pub entry_count : Loop → RegisterFact
entry_count loop = fact loop.count 0 loop.most (sum 0 (term (loop.count + 23) 1 ∷ []))

abbrev pub entry_pointer : List Param → ℕ → RegisterFact
entry_pointer params place =
    fact (place + 10) (base_of params place) (base_of params place) (sum (base_of params place) [])

abbrev pub entry_facts : List Param → Loop → List RegisterFact
entry_facts params loop =
    facts_by (stated_by loop (entry_count loop) (λ place. entry_pointer params place))

-- In the loop something is left, and each pointer is `base - size * n + size * argument`.
abbrev pub loop_count : Loop → RegisterFact
loop_count loop = fact loop.count 1 loop.most None

abbrev pub loop_pointer : List Param → Loop → ℕ → RegisterFact
loop_pointer params loop place =
    fact (place + 10) (base_of params place) (base_of params place + size_of loop * loop.most)
    (sum (base_of params place)
    (term loop.count (2 ^ 32 - size_of loop) ∷ term (loop.count + 23) (size_of loop) ∷ []))

abbrev pub loop_facts : List Param → Loop → List RegisterFact
loop_facts params loop =
    facts_by (stated_by loop (loop_count loop) (λ place. loop_pointer params loop place))

-- `constant` instructions, and `factor` for each one in the register
abbrev pub budget : ℕ → ℕ → ℕ → Budget
budget constant factor register = record {
  constant = constant;
  factor = factor;
  register = register;
  second_factor = 0;
  second_register = 0;
}

abbrev pub block : ℕ → Budget → List RegisterFact → Block
block start budget facts = record {
  start = start;
  budget = budget;
  vtype = None;
  registers = record { items = facts };
  vectors = record { items = [] };
  orders = record { items = [] };
}

-- The loop is not entered where there is nothing to do.
abbrev pub loop_blocks : List Param → ℕ → Loop → ℕ → List Block
loop_blocks params start loop words =
    if loop.most == 0 then []
    else block start (budget 1 words loop.count) (loop_facts params loop) ∷ []

-- the certificate of a loop of `words` instructions that begins at the entry's second word
unfoldable pub certificate_of : ImageView → List Param → Vlen → Loop → ℕ → CertificateView
certificate_of image params vlen loop words = record {
  version = V1;
  vlen = vlen;
  parameters = params;
  blocks = block image.entry (budget 2 words loop.count) (entry_facts params loop)
      ∷ loop_blocks params (image.entry + 4) loop words
      ++ block (image.entry + 4 + 4 * words) (budget 1 0 0) (facts_by (λ place. None)) ∷ [];
}
