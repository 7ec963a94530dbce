-- The classes of characters, by their codes.
use Rattle.std.specs.Prelude.{ℕ, Bool, ◌==◌, ◌||◌}
use Rattle.unicode_ident.specs.Ident.{is_xid_start, is_xid_continue}

-- LF or CR, which end a line (JLS 3.4)
abbrev pub is_line_end : ℕ → Bool
is_line_end c = c == 10 || c == 13

-- white space: space, tab, form feed or the end of a line (JLS 3.6)
abbrev pub is_blank : ℕ → Bool
is_blank c = c == 32 || c == 9 || c == 12 || is_line_end c

-- a character that an identifier may begin with (JLS 3.8): XID_Start of Unicode, `_` or `$`
abbrev pub begins_word : ℕ → Bool
begins_word c = is_xid_start c || c == 95 || c == 36

-- a character that an identifier may have behind its first: XID_Continue of Unicode or `$`
abbrev pub continues_word : ℕ → Bool
continues_word c = is_xid_continue c || c == 36
