-- Steps that may find nothing: what holds of all that they find.
use Rattle.std.proofs.Common.{◌≡◌, ℕ, Bool, true, false, cond, List, [], ◌∷◌, Option, Some, None, refl}
use Rattle.std.specs.Prelude.{IfSome}
use Rattle.std.specs.Option.{option_map, option_or}
use Rattle.vn_types.specs.Steps.{◌>>=◌}
use Rattle.vn_shell.specs.Words.{such_that, at_end, of_one, of_two}

pub some_then : {A B : Type 0} (P : A → Type 0) (Q : B → Type 0) (o : Option A) (f : A → Option B) → IfSome o P → ((x : A) → P x → IfSome (f x) Q) → IfSome (o >>= f) Q
some_then P Q None f h g = tt
some_then P Q (Some x) f h g = g x h

pub some_map : {A B : Type 0} (P : A → Type 0) (Q : B → Type 0) (o : Option A) (f : A → B) → IfSome o P → ((x : A) → P x → Q (f x)) → IfSome (option_map f o) Q
some_map P Q None f h g = tt
some_map P Q (Some x) f h g = g x h

pub some_if : {A : Type 0} (Q : A → Type 0) (b : Bool) (x y : Option A) → IfSome x Q → IfSome y Q → IfSome (cond b x y) Q
some_if Q true x y h g = h
some_if Q false x y h g = g

pub some_or : {A : Type 0} (Q : A → Type 0) (x y : Option A) → IfSome x Q → IfSome y Q → IfSome (option_or x y) Q
some_or Q None y h g = g
some_or Q (Some x) y h g = h

pub some_where : {A : Type 0} (P : A → Type 0) (b : Bool) (x : A) → (b ≡ true → P x) → IfSome (cond b (Some x) None) P
some_where P true x h = h refl
some_where P false x h = tt

pub some_such : {A : Type 0} (test : A → Bool) (x : A) → IfSome (such_that test x) (λ y. test y ≡ true)
some_such test x = some_where (λ y. test y ≡ true) (test x) x (λ e. e)

-- what is at hand under its own equation
pub some_at : {A : Type 0} (P : A → Type 0) (o : Option A) → ((x : A) → o ≡ Some x → P x) → IfSome o P
some_at P None h = tt
some_at P (Some x) h = h x refl

pub some_end : {A : Type 0} (Q : A → Type 0) (words : List (List ℕ)) (o : Option A) → IfSome o Q → IfSome (at_end words o) Q
some_end Q [] o h = h
some_end Q (word ∷ words) o h = tt

pub some_one : {A B : Type 0} (P : A → Type 0) (Q : B → Type 0) (read : List ℕ → Option A) (make : A → B)
    → ((word : List ℕ) → IfSome (read word) P) → ((x : A) → P x → Q (make x)) → (words : List (List ℕ)) → IfSome (of_one read make words) Q
some_one P Q read make h g [] = tt
some_one P Q read make h g (word ∷ []) = some_map P Q (read word) make (h word) g
some_one P Q read make h g (word ∷ other ∷ words) = tt

pub some_two : {A B C : Type 0} (P : A → Type 0) (R : B → Type 0) (Q : C → Type 0) (first : List ℕ → Option A) (second : List ℕ → Option B) (make : A → B → C)
    → ((word : List ℕ) → IfSome (first word) P) → ((word : List ℕ) → IfSome (second word) R) → ((x : A) (y : B) → P x → R y → Q (make x y))
    → (words : List (List ℕ)) → IfSome (of_two first second make words) Q
some_two P R Q first second make h k g [] = tt
some_two P R Q first second make h k g (one ∷ []) = tt
some_two P R Q first second make h k g (one ∷ two ∷ []) =
    some_then P Q (first one) _ (h one) (λ x p. some_then R Q (second two) _ (k two) (λ y r. g x y p r))
some_two P R Q first second make h k g (one ∷ two ∷ other ∷ words) = tt
