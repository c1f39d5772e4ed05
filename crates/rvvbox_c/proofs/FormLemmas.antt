-- What a run leaves at the eight places.
use Rattle.std.proofs.Common.{◌≡◌, ℕ, List, [], ◌∷◌, length, get_or, suc, refl, arith}
use Rattle.region_mem.specs.Parameter.{Argument}
use Rattle.rvvbox_c.specs.Forms.{all_left, left_in}
use Rattle.rvvbox_c.specs.declared.forms.Form.{Form}

-- the first slice, and those after it
more-left : (l : List Argument) (p : Argument) (s : Form) (ss : List Form) (x y : List ℕ) (xs ys : List (List ℕ)) (n : ℕ) → length l ≡ suc n
    → p ≡ get_or l 0 p → y ≡ left_in p s x → ((m : List Argument) → length m ≡ n → ((k : ℕ) (q : Argument) → q ≡ get_or l (suc k) q → q ≡ get_or m k q) → ys ≡ all_left m ss xs)
    → y ∷ ys ≡ all_left l (s ∷ ss) (x ∷ xs)
more-left (a ∷ l) p s ss x y xs ys n len is left rest =
    let more : ys ≡ all_left l ss xs = rest l (omega (arith, len)) (λ k q e. e) in
    rw (left, is, more) refl
more-left [] p s ss x y xs ys n len is left rest = absurd (omega (arith, len))

none-left : (l : List Argument) → length l ≡ 0 → [] ≡ all_left l [] []
none-left [] len = refl
none-left (a ∷ l) len = absurd (omega (arith, len))

pub eight-left : (l : List Argument) (p0 p1 p2 p3 p4 p5 p6 p7 : Argument) (s0 s1 s2 s3 s4 s5 s6 s7 : Form) (x0 x1 x2 x3 x4 x5 x6 x7 y0 y1 y2 y3 y4 y5 y6 y7 : List ℕ) → length l ≡ 8
    → p0 ≡ get_or l 0 p0
    → p1 ≡ get_or l 1 p1
    → p2 ≡ get_or l 2 p2
    → p3 ≡ get_or l 3 p3
    → p4 ≡ get_or l 4 p4
    → p5 ≡ get_or l 5 p5
    → p6 ≡ get_or l 6 p6
    → p7 ≡ get_or l 7 p7
    → y0 ≡ left_in p0 s0 x0
    → y1 ≡ left_in p1 s1 x1
    → y2 ≡ left_in p2 s2 x2
    → y3 ≡ left_in p3 s3 x3
    → y4 ≡ left_in p4 s4 x4
    → y5 ≡ left_in p5 s5 x5
    → y6 ≡ left_in p6 s6 x6
    → y7 ≡ left_in p7 s7 x7
    → (y0 ∷ y1 ∷ y2 ∷ y3 ∷ y4 ∷ y5 ∷ y6 ∷ y7 ∷ []) ≡ all_left l (s0 ∷ s1 ∷ s2 ∷ s3 ∷ s4 ∷ s5 ∷ s6 ∷ s7 ∷ []) (x0 ∷ x1 ∷ x2 ∷ x3 ∷ x4 ∷ x5 ∷ x6 ∷ x7 ∷ [])
eight-left l p0 p1 p2 p3 p4 p5 p6 p7 s0 s1 s2 s3 s4 s5 s6 s7 x0 x1 x2 x3 x4 x5 x6 x7 y0 y1 y2 y3 y4 y5 y6 y7 len e0 e1 e2 e3 e4 e5 e6 e7 w0 w1 w2 w3 w4 w5 w6 w7 =
    more-left l p0 s0 (s1 ∷ s2 ∷ s3 ∷ s4 ∷ s5 ∷ s6 ∷ s7 ∷ []) x0 y0 (x1 ∷ x2 ∷ x3 ∷ x4 ∷ x5 ∷ x6 ∷ x7 ∷ []) (y1 ∷ y2 ∷ y3 ∷ y4 ∷ y5 ∷ y6 ∷ y7 ∷ []) 7 len e0 w0 (λ m1 n1 f1.
    more-left m1 p1 s1 (s2 ∷ s3 ∷ s4 ∷ s5 ∷ s6 ∷ s7 ∷ []) x1 y1 (x2 ∷ x3 ∷ x4 ∷ x5 ∷ x6 ∷ x7 ∷ []) (y2 ∷ y3 ∷ y4 ∷ y5 ∷ y6 ∷ y7 ∷ []) 6 n1 (f1 0 p1 e1) w1 (λ m2 n2 f2.
    more-left m2 p2 s2 (s3 ∷ s4 ∷ s5 ∷ s6 ∷ s7 ∷ []) x2 y2 (x3 ∷ x4 ∷ x5 ∷ x6 ∷ x7 ∷ []) (y3 ∷ y4 ∷ y5 ∷ y6 ∷ y7 ∷ []) 5 n2 (f2 0 p2 (f1 1 p2 e2)) w2 (λ m3 n3 f3.
    more-left m3 p3 s3 (s4 ∷ s5 ∷ s6 ∷ s7 ∷ []) x3 y3 (x4 ∷ x5 ∷ x6 ∷ x7 ∷ []) (y4 ∷ y5 ∷ y6 ∷ y7 ∷ []) 4 n3 (f3 0 p3 (f2 1 p3 (f1 2 p3 e3))) w3 (λ m4 n4 f4.
    more-left m4 p4 s4 (s5 ∷ s6 ∷ s7 ∷ []) x4 y4 (x5 ∷ x6 ∷ x7 ∷ []) (y5 ∷ y6 ∷ y7 ∷ []) 3 n4 (f4 0 p4 (f3 1 p4 (f2 2 p4 (f1 3 p4 e4)))) w4 (λ m5 n5 f5.
    more-left m5 p5 s5 (s6 ∷ s7 ∷ []) x5 y5 (x6 ∷ x7 ∷ []) (y6 ∷ y7 ∷ []) 2 n5 (f5 0 p5 (f4 1 p5 (f3 2 p5 (f2 3 p5 (f1 4 p5 e5))))) w5 (λ m6 n6 f6.
    more-left m6 p6 s6 (s7 ∷ []) x6 y6 (x7 ∷ []) (y7 ∷ []) 1 n6 (f6 0 p6 (f5 1 p6 (f4 2 p6 (f3 3 p6 (f2 4 p6 (f1 5 p6 e6)))))) w6 (λ m7 n7 f7.
    more-left m7 p7 s7 ([]) x7 y7 ([]) ([]) 0 n7 (f7 0 p7 (f6 1 p7 (f5 2 p7 (f4 3 p7 (f3 4 p7 (f2 5 p7 (f1 6 p7 e7))))))) w7 (λ m8 n8 f8.
    none-left m8 n8))))))))
