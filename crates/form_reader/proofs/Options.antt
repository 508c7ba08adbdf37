-- What is said of a form that was read or not, as an `Option`. Assumes nothing.
use Rattle.std.proofs.Common.{◌≡◌, refl, ℕ, Bool, true, false}
use Rattle.std.specs.Prelude.{Option, None, Some, MatchOption}
use Rattle.std.specs.Bool.{then_some}
use Rattle.form_reader.specs.declared.Form.{Form}

-- of what is said of a flag, a side and a count another thing follows: so it does of an option
pub told_on : (r : Option Form) (A B : Bool → Bool → ℕ → Type 0) → ((f o : Bool) (n : ℕ) → A f o n → B f o n) → MatchOption r (A false false 0) (λ f. A true f.outside f.ranges)
    → MatchOption r (B false false 0) (λ f. B true f.outside f.ranges)
told_on None A B h x = h false false 0 x
told_on (Some f) A B h x = h true f.outside f.ranges x

-- a form with no range, where the test holds
pub told_test : (b o : Bool) (B : Bool → Bool → ℕ → Type 0) → (b ≡ true → B true o 0) → (b ≡ false → B false false 0)
    → MatchOption (then_some {T = Form} b (record { outside = o; ranges = 0 })) (B false false 0) (λ f. B true f.outside f.ranges)
told_test true o B y n = y refl
told_test false o B y n = n refl
