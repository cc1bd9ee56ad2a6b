-- Functions that agree on the elements of a list map it, tabulate and sort alike. Assumes nothing.
use Prim.Native.Nat.{ℕ, ◌<◌}
use mathlib.Core.Path.{◌≡◌, refl, ap, ap₂, ◌∙◌}
use mathlib.Core.List.{List, [], ◌∷◌, map, Memᴰ}
use Rattle.lists.specs.Select.{range, tabulate, insert_by, sort_by}
use Rattle.lists.proofs.Select.{range_e}
use Rattle.lists.proofs.Sort.{sort_by_e}

pub map_same : {A : Type 0} (f g : ℕ → A) (l : List ℕ) → ((x : ℕ) → Memᴰ x l → f x ≡ g x) → map f l ≡ map g l
map_same f g [] h = refl
map_same {A} f g (x ∷ xs) h = ap₂ (λ (y : A) (l : List A). y ∷ l) (h x (Memᴰ.head refl)) (map_same f g xs (λ y m. h y (Memᴰ.tail m)))

pub tabulate_same : {A : Type 0} (n : ℕ) (f g : ℕ → A) → ((i : ℕ) → i < n → f i ≡ g i) → tabulate n f ≡ tabulate n g
unfolding tabulate
tabulate_same n f g h = map_same f g (range n) (λ i m. h i (range_e n m))

pub insert_by_same :
    (f g : ℕ → ℕ) (x : ℕ) (l : List ℕ) → f x ≡ g x → ((y : ℕ) → Memᴰ y l → f y ≡ g y) → insert_by f x l ≡ insert_by g x l
unfolding insert_by
insert_by_same f g x [] e h = refl
insert_by_same f g x (y ∷ ys) e h =
    rw (e, h y (Memᴰ.head refl), insert_by_same f g x ys e (λ z m. h z (Memᴰ.tail m))) refl

pub sort_by_same : (f g : ℕ → ℕ) (l : List ℕ) → ((y : ℕ) → Memᴰ y l → f y ≡ g y) → sort_by f l ≡ sort_by g l
unfolding sort_by
sort_by_same f g [] h = refl
sort_by_same f g (x ∷ xs) h =
    insert_by_same f g x (sort_by f xs) (h x (Memᴰ.head refl)) (λ y m. h y (Memᴰ.tail (sort_by_e f xs m)))
    ∙ ap (insert_by g x) (sort_by_same f g xs (λ y m. h y (Memᴰ.tail m)))
