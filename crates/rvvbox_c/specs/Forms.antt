-- The eight arguments of a run, where the host has their bytes: what is passed, and what is left.
use Rattle.std.specs.Prelude.{ℕ, ◌==◌, ◌&&◌, nat_lt, List, [], ◌∷◌, length, Option, None, Some, if◌then◌else◌}
use Rattle.region_mem.specs.Parameter.{Argument}
use Rattle.region_mem.specs.declared.arguments.Arg.TheVariants as arg
use Rattle.rvvbox_c.specs.declared.facts.Scalars.{Scalars}
use Rattle.rvvbox_c.specs.declared.forms.Form.{Form}
use Rattle.rvvbox_c.specs.declared.forms.Forms.{Forms}
use Rattle.rvvbox_c.specs.declared.forms.Slices.{Slices}

-- one for each place
abbrev pub eight : {A : Type 0} → A → A → A → A → A → A → A → A → List A
eight a b c d e f g h = a ∷ b ∷ c ∷ d ∷ e ∷ f ∷ g ∷ h ∷ []

abbrev pub forms_of : Forms → List Form
forms_of s = eight s.a0 s.a1 s.a2 s.a3 s.a4 s.a5 s.a6 s.a7

abbrev pub bytes_of : Slices → List (List ℕ)
bytes_of s =
    eight s.a0.now s.a1.now s.a2.now s.a3.now s.a4.now s.a5.now s.a6.now s.a7.now

-- the first place whose form is of no kind
abbrev pub place_of_no_kind : Forms → Option ℕ
place_of_no_kind s =
    if nat_lt 3 s.a0.kind then Some 0
    else (if nat_lt 3 s.a1.kind then Some 1
    else (if nat_lt 3 s.a2.kind then Some 2
    else (if nat_lt 3 s.a3.kind then Some 3
    else (if nat_lt 3 s.a4.kind then Some 4
    else (if nat_lt 3 s.a5.kind then Some 5
    else (if nat_lt 3 s.a6.kind then Some 6
    else (if nat_lt 3 s.a7.kind then Some 7 else None)))))))

-- the number of a scalar, and 0 of all else
abbrev pub number_in : Form → ℕ
number_in form = if form.kind == 1 then form.value else 0

abbrev pub numbers_in : Forms → Scalars
numbers_in s = record {
  a0 = number_in s.a0;
  a1 = number_in s.a1;
  a2 = number_in s.a2;
  a3 = number_in s.a3;
  a4 = number_in s.a4;
  a5 = number_in s.a5;
  a6 = number_in s.a6;
  a7 = number_in s.a7;
}

-- what a form names: nothing, its number, or a copy of the bytes at its place that are read, or of
-- those that are put back
abbrev pub argument_in : Form → List ℕ → List ℕ → Argument
argument_in form read put =
    if form.kind == 0 then arg.None
    else (if form.kind == 1 then arg.Scalar form.value
    else (if form.kind == 3 then arg.Buffer read else arg.Buffer put))

-- what is left of bytes: the argument's where they are put back, and else as they were
abbrev pub left_in : Argument → Form → List ℕ → List ℕ
left_in (arg.Buffer now) form bytes =
    if form.kind == 2 && length now == length bytes then now else bytes
left_in (arg.Scalar value) form bytes = bytes
left_in arg.None form bytes = bytes

-- by place
abbrev pub all_in : List Form → List (List ℕ) → List (List ℕ) → List Argument
all_in [] reads puts = []
all_in (form ∷ forms) [] puts = []
all_in (form ∷ forms) (read ∷ reads) [] = []
all_in (form ∷ forms) (read ∷ reads) (put ∷ puts) =
    argument_in form read put ∷ all_in forms reads puts

abbrev pub all_left : List Argument → List Form → List (List ℕ) → List (List ℕ)
all_left [] forms slices = []
all_left (a ∷ args) [] slices = []
all_left (a ∷ args) (form ∷ forms) [] = []
all_left (a ∷ args) (form ∷ forms) (bytes ∷ slices) =
    left_in a form bytes ∷ all_left args forms slices
