-- Whether two tasks are the same.
use Rattle.std.specs.Prelude.{nat_eq, Bool, false, ◌&&◌, Option, None, Some}
use Rattle.cost_free.specs.Task.{Kind, Free, With, Task, same_meter}

abbrev pub same_kind : Kind → Kind → Bool
same_kind (Free b f t) (Free c g u) = nat_eq b c && (nat_eq f g && nat_eq t u)
same_kind (With m) (With n) = same_meter m n
same_kind _ _ = false

abbrev pub same_task : Task → Task → Bool
same_task t u = nat_eq t.group u.group && same_kind t.kind u.kind

abbrev pub is_task : Task → Option Task → Bool
is_task t None = false
is_task t (Some u) = same_task t u
