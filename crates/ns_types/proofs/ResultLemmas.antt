-- Results and options with a value: each step before gave one.
use Rattle.std.proofs.Common.{◌≡◌, Bool, true, false, Option, Some, None, Result, Ok, Err, refl, option_and_then}
use Rattle.std.specs.Prelude.{⊤}
use Rattle.std.specs.Option.{ok_or}
use Rattle.ns_types.specs.Results.{◌>>=◌, unless, or_fault}

pub bind-ok : {A B E : Type 0} (r : Result A E) (f : A → Result B E) (y : B) → (r >>= f) ≡ Ok y → (x : A) × (r ≡ Ok x) × (f x ≡ Ok y)
bind-ok (Ok x) f y h = (x, refl, h)
bind-ok (Err e) f y h = cc

pub ok_or-ok : {A E : Type 0} (o : Option A) (e : E) (x : A) → ok_or o e ≡ Ok x → o ≡ Some x
ok_or-ok None e x h = cc
ok_or-ok (Some y) e x h = cc

pub unless-ok : {E : Type 0} (e : E) (b : Bool) (x : ⊤) → unless e b ≡ Ok x → b ≡ true
unless-ok e true x h = refl
unless-ok e false x h = cc

pub or_fault-ok : {X E : Type 0} (fault : Option E) (x y : X) → or_fault fault x ≡ Ok y → (fault ≡ None) × (x ≡ y)
or_fault-ok None x y h = (refl, cc)
or_fault-ok (Some e) x y h = absurd cc

pub bind-some : {A B : Type 0} (o : Option A) (f : A → Option B) (y : B) → option_and_then f o ≡ Some y → (x : A) × (o ≡ Some x) × (f x ≡ Some y)
bind-some None f y h = cc
bind-some (Some x) f y h = (x, refl, h)
