-- Every call is the call of its view. Assumes nothing.
use mathlib.Core.Path.{◌≡◌, refl}
use Rattle.steps.specs.Call as C
use Rattle.steps.specs.Call.{Call, view, call_of}

pub view_back : (c : Call) → call_of (view c).number (view c).poster (view c).k (view c).v (view c).out (view c).out2 (view c).marks ≡ c
view_back (C.append p k v) = refl
view_back (C.insert p k v) = refl
view_back (C.insert_all p k v out) = refl
view_back (C.remove k) = refl
view_back (C.remove_all k out) = refl
view_back (C.entry k) = refl
view_back (C.occupied_append p k v) = refl
view_back (C.occupied_insert p k v) = refl
view_back (C.occupied_remove_entry k) = refl
view_back (C.vacant_insert p k v) = refl
view_back C.pop_front = refl
view_back C.pop_back = refl
view_back (C.retain marks) = refl
view_back (C.pack_to a b) = refl
view_back C.clear = refl
view_back (C.get k) = refl
view_back (C.get_all k out) = refl
view_back (C.entry_len k) = refl
view_back (C.contains_key k) = refl
view_back (C.keys out) = refl
view_back C.keys_len = refl
view_back C.values_len = refl
view_back (C.iter ks vs) = refl
view_back (C.taken out) = refl
