-- What passes through layers.
use Rattle.std.proofs.Common.{◌≡◌, ℕ, ◌+◌, min, Bool, true, false, cond, ◌&&◌, Ok, Err, sym, refl, ◌∙◌, arith}
use Rattle.domain.specs.declared.Op.{Op}
use Rattle.domain.specs.declared.pile.Pile.{Pile}
use Rattle.domain.specs.declared.pile.Pile.TheVariants.{Bottom, Screen'}
use Rattle.domain.specs.declared.Fault.{Fault}
use Rattle.domain.specs.Meaning.{Meaning, Answer, Answers}
use Rattle.domain.specs.Screen.{screen}
use Rattle.domain.specs.Pile.{piled, bottom_of, layers}
use Rattle.domain.specs.Laws.{Layer, Layered, bare, over, FaultsPass, NeverScreens, Stands}

code_passed : (t : Bool) (x : Answer) (f : Fault) (n : ℕ) → cond t x (Err f) ≡ Ok n → x ≡ Ok n
code_passed true x f n h = h
code_passed false x f n h = cc

-- A Screen answers on lawful codes as the domain below.
pub screen_below : (m : Meaning) (op : Op) (a b : ℕ) → m.lawful a ≡ true → m.lawful b ≡ true → (screen m).table op a b ≡ m.table op a b
screen_below m op a b p q = rw (p, q)

-- A code that a Screen answers is the answer from below.
pub screen_code : (m : Meaning) (op : Op) (a b n : ℕ) → (screen m).table op a b ≡ Ok n → m.table op a b ≡ Ok n
screen_code m op a b n = code_passed (m.lawful a && m.lawful b) (m.table op a b) _ n

pub screen_layer : (m : Meaning) → Layer m (screen m)
screen_layer m = record {
  lawful = λ n. refl;
  same = λ a b. refl;
  height = refl;
  passes = λ op a b f p q h. screen_below m op a b p q ∙ h;
}

pub pile_layered : {B : Type 0} (m : B → Meaning) (p : Pile B) → Layered (m (bottom_of p)) (layers p) (piled m p)
pile_layered m (Bottom b) = bare
pile_layered m (Screen' p below) = over (pile_layered m below) (screen_layer (piled m below))

-- Lawful codes are those of the bottom.
pub lawful_below : {m u : Meaning} {n : ℕ} → Layered m n u → (k : ℕ) → u.lawful k ≡ m.lawful k
lawful_below bare k = refl
lawful_below (over s l) k = l.lawful k ∙ lawful_below s k

pub faults_pass : {m u : Meaning} {n : ℕ} → Layered m n u → FaultsPass m u
faults_pass bare op a b f p q h = h
faults_pass (over s l) op a b f p q h =
    l.passes op a b f (lawful_below s a ∙ p) (lawful_below s b ∙ q) (faults_pass s op a b f p q h)

pub heights_rise : {m u : Meaning} {n : ℕ} → Layered m n u → u.height ≡ min (m.height + n) 255
heights_rise {m} bare = let l = m.low in omega arith
heights_rise (over s l) = let k = heights_rise s in l.height ∙ omega arith

pub piles_never_screen : {B : Type 0} (m : B → Meaning) (p : Pile B) → NeverScreens (m (bottom_of p)) → NeverScreens (piled m p)
piles_never_screen m (Bottom c) never op a b f l r h = never op a b f l r h
piles_never_screen m (Screen' p below) never op a b f l r h =
    piles_never_screen m below never op a b f l r (sym (screen_below (piled m below) op a b l r) ∙ h)

pub pile_stands : {B : Type 0} (m : B → Meaning) (p : Pile B) → Stands m p
pile_stands m p = record { layered = pile_layered m p; quiet = piles_never_screen m p }

-- What is answered by a pile's table passes on the faults of its bottom.
pub answer-passes : {B : Type 0} (m : B → Meaning) (p : Pile B) (op : Op) (a b : ℕ) (r : Answer) →
    Answers (piled m p) op a b r → (f : Fault) → (m (bottom_of p)).lawful a ≡ true → (m (bottom_of p)).lawful b ≡ true → (m (bottom_of p)).table op a b ≡ Err f → r ≡ Err f
answer-passes m p op a b r answers f l q h =
    let s = pile_layered m p in
    answers (lawful_below s a ∙ l) (lawful_below s b ∙ q) ∙ faults_pass s op a b f l q h
