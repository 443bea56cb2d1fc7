pub mod PatchLaws
